-- What only the bodies of this crate speak of.
pub mod Aggregates
pub mod Made
pub mod Runs
