pub mod Answers
pub mod Lists
pub mod Judging
pub mod Lengths
pub mod Laying
pub mod Parts
pub mod Rounds
