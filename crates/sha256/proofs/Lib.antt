pub mod Filling
pub mod Joined
pub mod Message
pub mod Roots
