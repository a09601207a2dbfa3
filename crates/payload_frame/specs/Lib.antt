pub mod Payload
pub mod Private
