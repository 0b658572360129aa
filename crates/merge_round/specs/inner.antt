-- Inner: words of this crate's own bodies and proofs, which no public clause needs.
pub mod Entries
pub mod Gathering
