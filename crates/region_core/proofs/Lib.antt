mod OwnOutcomes
mod Counted
mod Advanced
pub mod Short
pub mod Read
pub mod Submitted
pub mod Arrived
pub mod Gathered
pub mod Insides
pub mod Started
pub mod Sealings
pub mod Fetched
