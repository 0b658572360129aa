pub mod FirstFaults
pub mod Kept
pub mod Levels
pub mod Numbers
pub mod Truths
pub mod Typed
