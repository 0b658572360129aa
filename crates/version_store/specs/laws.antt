-- What the laws of this crate are shown by.
pub mod Answering
pub mod Growing
pub mod Keeping
pub mod Listing
pub mod Sameness
pub mod Trimming
