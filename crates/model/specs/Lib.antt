pub mod Book
pub mod Take
pub mod Meaning
pub mod Finish
pub mod Complete
