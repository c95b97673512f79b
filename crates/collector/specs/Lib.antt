pub mod Collect
pub mod CollectTheorem
