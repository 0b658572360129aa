-- Words for what inner functions do.
pub mod Noting
pub mod Writing
