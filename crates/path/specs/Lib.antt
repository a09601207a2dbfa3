pub mod Utf8
pub mod Order
pub mod Names
pub mod Path
