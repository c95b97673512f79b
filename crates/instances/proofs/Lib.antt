pub mod Instances
pub mod Applied
