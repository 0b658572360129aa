-- What only the bodies of this crate, and the answers of its private functions, speak of.
pub mod Faults
