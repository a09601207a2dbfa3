pub mod Answers
pub mod Sessions
pub mod Demand
pub mod Pantry
