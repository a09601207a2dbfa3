pub mod Lengths
pub mod Writing
pub mod Reading
pub mod States
pub mod Slots
pub mod Round
