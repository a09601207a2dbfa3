pub mod Answers
pub mod Lengths
pub mod Verdicts
pub mod Writers
pub mod Rounds
pub mod Placeless
