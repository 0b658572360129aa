pub mod Texts
pub mod Beginnings
