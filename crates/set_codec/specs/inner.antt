-- What only readers' bodies, and the laws about them, speak of.
pub mod Reading
