pub mod KeptRules
pub mod KeyOfRow
pub mod Names
pub mod OneFault
pub mod Repeats
pub mod Search
