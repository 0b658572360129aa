pub mod Lists
pub mod Answered
