pub mod Collection
pub mod Answer
pub mod Built
pub mod Private
