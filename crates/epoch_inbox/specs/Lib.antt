pub mod Inbox
pub mod inner
pub mod laws
