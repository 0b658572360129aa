pub mod Bounds
pub mod Handing
pub mod Lists
pub mod Matches
pub mod Sources
