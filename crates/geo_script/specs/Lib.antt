pub mod Lines
pub mod Words
pub mod EventWords
pub mod Tables
pub mod Spelling
pub mod Wrongs
pub mod Faults
pub mod inner
