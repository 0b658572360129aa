pub mod World
pub mod Lines
pub mod Step
pub mod Play
pub mod Plays
pub mod Answers
pub mod Tables
pub mod inner
