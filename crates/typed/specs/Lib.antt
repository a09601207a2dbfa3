pub mod Typed
pub mod Slip
pub mod Private
