pub mod Sames
pub mod Parts
pub mod Shown
