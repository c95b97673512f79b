pub mod Validity
pub mod Questions
pub mod Steps
pub mod FreshPool
