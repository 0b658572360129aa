pub mod Chains
pub mod History
pub mod Listing
pub mod inner
pub mod laws
