pub mod Scans
pub mod Sessions
pub mod Sound
pub mod Lines
pub mod Reading
pub mod Inputs
