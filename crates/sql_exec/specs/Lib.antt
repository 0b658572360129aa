pub mod Answers
pub mod Changes
pub mod Effects
pub mod inner
pub mod laws
