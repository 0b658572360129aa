pub mod Boundaries
pub mod Lexing
pub mod Quotes
pub mod Values
