pub mod Places
pub mod Parts
pub mod Fields
pub mod Spelling
pub mod Faults
pub mod Alone
pub mod inner
pub mod laws
