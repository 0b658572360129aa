-- Laws, with their proofs, for the proofs of this crate and of those above.
pub mod Standings
pub mod Journals
pub mod Regions
pub mod Rounds
