pub mod Sheet
pub mod Private
pub mod Word
pub mod Words
