-- Inner: what the code computes while it reads. Contracts of inner functions and proofs of this crate cite it, and of the public
-- contracts two laws alone, which tie it to what is to be believed. No crate above does.
pub mod Words
pub mod Verbs
pub mod Past
pub mod EventLines
pub mod TableLines
pub mod Scripts
pub mod Answers
