pub mod Mending
pub mod Mends
pub mod Repairs
pub mod Once
