pub mod Conditions
pub mod Faults
pub mod Kleene
pub mod Rows
pub mod Types
pub mod Values
pub mod inner
