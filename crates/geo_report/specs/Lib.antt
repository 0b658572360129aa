pub mod Notices
pub mod Refusals
pub mod Replies
pub mod TableLines
pub mod Words
