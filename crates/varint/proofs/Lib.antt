pub mod Sevens
pub mod Lengths
pub mod Rounds
pub mod Refusals
pub mod Turns
pub mod Stores
pub mod Placeless
