-- Laws, with their proofs, for the proofs of the crates above.
pub mod Times
pub mod Tops
