pub mod Kinds
pub mod Trees
pub mod Lines
pub mod Forms
pub mod Grammar
pub mod Places
pub mod Refusals
pub mod inner
