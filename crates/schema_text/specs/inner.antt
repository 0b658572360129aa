-- Inner: how the code reads a text, step by step. The laws that tie the steps to what a text spells speak of them, and so do proofs of the crates above.
pub mod Marks
pub mod Texts
