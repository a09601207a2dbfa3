pub mod Decimals
pub mod Hexes
pub mod Numerals
pub mod Laying
