pub mod Typing
pub mod Words
pub mod Private
