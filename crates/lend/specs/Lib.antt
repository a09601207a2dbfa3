pub mod Plain
pub mod Same
