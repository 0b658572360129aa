pub mod Chosen
pub mod Collected
pub mod Fitting
mod Joined
mod LeftOut
pub mod Numbers
pub mod Parts
mod Passing
mod Reached
mod Safe
pub mod Short
pub mod Whole
