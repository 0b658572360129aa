pub mod Borders
pub mod Pairs
pub mod inner
pub mod laws
