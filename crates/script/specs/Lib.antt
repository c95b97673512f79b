pub mod Reader
pub mod Scripts
