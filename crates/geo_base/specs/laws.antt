-- Laws, with their proofs, for the proofs of the crates above.
pub mod Answers
pub mod Keys
pub mod Orders
pub mod Results
pub mod Texts
pub mod Winning
