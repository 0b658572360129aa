pub mod Logs
pub mod inner
pub mod laws
