pub mod File
pub mod Writing
pub mod Private
