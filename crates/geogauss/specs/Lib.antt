pub mod Command
pub mod Status
pub mod Playing
pub mod Meaning
pub mod inner
