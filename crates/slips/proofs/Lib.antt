pub mod Lines
pub mod Finding
pub mod Repeats
pub mod Seeing
pub mod Once
