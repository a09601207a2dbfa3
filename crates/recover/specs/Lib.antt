pub mod Recover
pub mod Private
pub mod Claims
