mod Kept
mod Keys
mod LeftOut
mod Linked
mod Planned
mod Reached
