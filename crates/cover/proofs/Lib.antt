pub mod Chain
pub mod Answers
pub mod Laying
pub mod ReadsBack
pub mod OnlyLayouts
