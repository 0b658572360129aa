pub mod Sound
pub mod Sessions
pub mod Arrivals
pub mod Regions
pub mod Sending
pub mod Standing
