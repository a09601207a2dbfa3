pub mod Orders
pub mod Points
pub mod Encoding
pub mod Names
pub mod Walks
pub mod Paths
pub mod Texts
pub mod Verdicts
