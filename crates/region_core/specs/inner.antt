-- What only the bodies of this crate speak of.
pub mod Fields
pub mod Sealing
pub mod Fetching
pub mod Publishing
