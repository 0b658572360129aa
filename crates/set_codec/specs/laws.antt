-- Laws, with their proofs, for the proofs of this crate and of those above.
pub mod Fields
pub mod KeyPlaces
pub mod Rows
pub mod Changes
pub mod Candidates
pub mod Batches
pub mod Packets
pub mod Lengths
