-- What only the bodies of this crate speak of.
pub mod Kept
pub mod Linked
