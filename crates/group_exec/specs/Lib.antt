pub mod Groups
pub mod Results
pub mod inner
pub mod laws
