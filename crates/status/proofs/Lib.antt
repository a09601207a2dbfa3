pub mod Lines
pub mod Standings
pub mod Told
pub mod Sets
