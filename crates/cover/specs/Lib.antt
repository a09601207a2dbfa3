pub mod Cover
pub mod Answer
pub mod Private
