pub mod Rounds
pub mod Seats
pub mod Gathers
pub mod inner
pub mod laws
