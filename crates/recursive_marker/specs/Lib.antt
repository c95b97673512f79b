pub mod Recursive
pub mod Steps
