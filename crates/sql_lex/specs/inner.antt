-- Inner: how the code cuts a text, step by step. The laws that tie the steps to the grammar speak of them, and so do proofs of the crates above.
pub mod Keywords
pub mod Pieces
pub mod Quoted
pub mod Symbols
pub mod Tokens
