-- Words for what inner functions do.
pub mod Edges
pub mod Laying
pub mod Naming
pub mod Viewing
