pub mod Sums
pub mod Polynomials
pub mod Products
pub mod Division
pub mod Elements
pub mod Blocks
pub mod Turns
