-- Laws, with their proofs, for the proofs of the crates above.
pub mod Apart
pub mod Edges
pub mod Fits
pub mod Hidden
pub mod Keys
pub mod Numbers
pub mod Places
pub mod Rules
pub mod Schemas
pub mod Steps
pub mod Uniques
