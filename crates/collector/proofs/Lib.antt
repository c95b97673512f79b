pub mod Collected
pub mod MarkSweep
pub mod CollectTheorem
