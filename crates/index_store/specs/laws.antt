-- Laws, with their proofs, for this crate's own code and for the proofs of the crates above.
pub mod Finding
pub mod Members
pub mod OneList
pub mod Orders
