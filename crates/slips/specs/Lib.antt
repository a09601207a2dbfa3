pub mod Standing
pub mod Slip
pub mod Repeats
pub mod Digits
pub mod Private
