pub mod Verdicts
pub mod Sizes
pub mod Writers
pub mod Rounds
