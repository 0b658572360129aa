-- Laws, with their proofs, for the proofs of the crates above.
pub mod Inversions
pub mod Closing
pub mod TextMarks
pub mod Names
pub mod MarkLists
pub mod Columns
pub mod Listed
pub mod Tables
pub mod Indexes
