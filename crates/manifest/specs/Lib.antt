pub mod Manifest
pub mod Writing
pub mod Answer
pub mod Private
