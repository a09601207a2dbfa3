pub mod Id
pub mod Session
pub mod Input
