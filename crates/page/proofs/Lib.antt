pub mod Pages
pub mod Counts
pub mod Cutting
pub mod Typing
pub mod Round
