pub mod Judging
pub mod Round
