-- Laws, with their proofs, for the proofs of the crates above.
pub mod Borders
pub mod Finding
pub mod Lists
pub mod Orders
pub mod Places
