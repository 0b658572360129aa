-- Inner: what the code computes. Two laws of the crate, `faultless_cells_are_rows` and `faultless_tables_are_schemas`, tie `row_fault`
-- and `schema_fault` to what is to be believed. Some of these words, as those two and `cell_fault`, are cited above this crate too: by
-- clauses of private functions, by inner words and by proofs.
pub mod Repeats
pub mod Rows
pub mod Schemas
pub mod Tables
pub mod Uniques
