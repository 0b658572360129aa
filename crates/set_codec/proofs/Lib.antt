pub mod Rows
pub mod Keys
pub mod Cells
pub mod Loops
pub mod Readable
pub mod Answers
