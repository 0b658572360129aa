-- Laws, with their proofs, for the proofs of the crates above.
pub mod Fitting
pub mod Following
pub mod Histories
