pub mod Line
pub mod Notes
