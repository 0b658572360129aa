-- Words for what inner functions do, and for what a store notes of its pairs.
pub mod Dropping
pub mod Edges
pub mod Following
pub mod GainsAndLosses
pub mod Keys
