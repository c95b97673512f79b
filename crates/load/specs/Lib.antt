pub mod Load
pub mod Steps
