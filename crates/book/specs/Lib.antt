pub mod Head
pub mod Encode
pub mod Read
pub mod Tally
