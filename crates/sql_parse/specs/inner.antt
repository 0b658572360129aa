-- Inner: how the code reads tokens, step by step. The laws that tie the steps to the grammar speak of them.
pub mod Kinds
pub mod Levels
pub mod Expressions
pub mod Reading
pub mod Parsing
