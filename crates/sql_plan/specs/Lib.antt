pub mod Lines
pub mod Plans
pub mod Tests
pub mod inner
