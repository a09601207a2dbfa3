pub mod Letters
pub mod Cutting
pub mod Checks
pub mod Rows
pub mod Round
pub mod Found
pub mod Slips
pub mod Pages
mod Judging
mod Weighing
mod Answers
mod Steps
mod Runs
mod Laying
