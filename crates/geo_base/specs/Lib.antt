pub mod Cells
pub mod Claims
pub mod Equality
pub mod Order
pub mod Results
pub mod Texts
pub mod inner
pub mod laws
