pub mod Speech
pub mod Counts
pub mod Lists
