-- Laws, with their proofs, for the proofs of the crates above.
pub mod Among
pub mod Committing
pub mod Isolating
pub mod Lookups
pub mod Nets
pub mod Placing
pub mod Rising
pub mod Rivals
pub mod Sealing
pub mod Tables
