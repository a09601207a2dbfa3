pub mod Frame
pub mod Layout
pub mod Kind
pub mod Answer
pub mod Private
pub mod Allowed
