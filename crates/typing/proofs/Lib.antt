pub mod Searching
pub mod Counting
pub mod Laying
pub mod Framing
pub mod Pages
pub mod Numbers
