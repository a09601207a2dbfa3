pub mod Sharing
pub mod Values
pub mod Turns
pub mod Verdicts
