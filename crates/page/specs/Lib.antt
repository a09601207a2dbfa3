pub mod Page
pub mod Private
