pub mod Words
pub mod Layout
pub mod Lengths
pub mod States
pub mod Retain
pub mod Steps
pub mod Fresh
