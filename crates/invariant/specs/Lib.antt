pub mod ReachedPools
pub mod Memory
