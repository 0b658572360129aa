pub mod Bytes
pub mod Grammar
pub mod Keywords
pub mod Symbols
pub mod inner
pub mod laws
