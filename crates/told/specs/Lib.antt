pub mod Pages
pub mod Words
pub mod Lines
