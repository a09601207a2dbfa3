pub mod Loops
pub mod Judging
pub mod Answers
pub mod Rounds
