pub mod Offers
pub mod Firsts
pub mod Steps
