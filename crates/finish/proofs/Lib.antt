pub mod Gathering
pub mod Pulling
pub mod Finishing
pub mod Once
pub mod Demand
