-- What only the bodies of this crate speak of.
pub mod Fitting
pub mod Inserting
pub mod Naming
pub mod Plain
pub mod Reaching
pub mod Removing
pub mod Touching
pub mod Updating
