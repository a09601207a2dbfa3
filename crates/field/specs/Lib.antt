pub mod Field
pub mod Inverses
pub mod Element
