pub mod Turns
pub mod Example
