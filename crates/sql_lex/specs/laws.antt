-- Laws, with their proofs, for the proofs of the crates above.
pub mod Bytes
pub mod Cuts
pub mod Fronts
pub mod Keywords
pub mod Quotes
pub mod Slices
pub mod Spellings
pub mod Taken
