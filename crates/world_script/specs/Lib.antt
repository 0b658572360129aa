pub mod Script
pub mod Fault
pub mod inner
