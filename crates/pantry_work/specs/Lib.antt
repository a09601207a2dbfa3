pub mod Steps
pub mod Pantry
