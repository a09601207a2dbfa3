pub mod Bytes
pub mod Entries
pub mod Moves
pub mod Range
pub mod Xor
