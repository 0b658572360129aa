-- Laws, with their proofs, for the proofs of the crates above.
pub mod Orders
pub mod Sorting
pub mod Stable
