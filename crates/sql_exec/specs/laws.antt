-- Laws, with their proofs, for the proofs of the crates above.
pub mod Applying
pub mod Duplicates
pub mod Faults
pub mod Fitting
pub mod Inserted
pub mod KeptRows
pub mod OwnNets
pub mod OwnFaults
pub mod Parts
pub mod Reading
pub mod Sound
pub mod Staying
pub mod Updated
