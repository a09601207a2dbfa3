pub mod Mixing
pub mod Output
pub mod Pieces
pub mod Reading
pub mod Tables
pub mod Vector
