pub mod Execute
pub mod Example
