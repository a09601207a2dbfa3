pub mod Auth
pub mod Answer
