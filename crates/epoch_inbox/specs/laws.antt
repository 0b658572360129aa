-- Laws, with their proofs, for the proofs of this crate and of those above.
pub mod Held
pub mod Rising
