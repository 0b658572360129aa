pub mod Plan
pub mod Views
pub mod Rule
pub mod Seats
pub mod inner
pub mod laws
