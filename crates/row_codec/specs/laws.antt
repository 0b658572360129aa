-- Laws, with their proofs, for the proofs of the crates above.
pub mod Places
pub mod Tells
pub mod Fields
pub mod Things
pub mod Cells
