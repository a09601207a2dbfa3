pub mod Finish
pub mod Sets
pub mod Private
