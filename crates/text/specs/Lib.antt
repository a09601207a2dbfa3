pub mod Text
pub mod Private
