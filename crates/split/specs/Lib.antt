pub mod Split
pub mod Private
