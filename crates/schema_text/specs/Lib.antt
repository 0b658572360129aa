pub mod Marks
pub mod Tables
pub mod Spelling
pub mod inner
pub mod laws
