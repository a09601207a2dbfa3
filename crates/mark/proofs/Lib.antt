pub mod Placeless
pub mod Marks
