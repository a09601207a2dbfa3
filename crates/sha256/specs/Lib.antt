pub mod Functions
pub mod Constants
pub mod Message
pub mod Sha
