pub mod Snapshots
pub mod Views
pub mod inner
pub mod laws
