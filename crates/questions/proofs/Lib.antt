pub mod WellFormed
pub mod Plausible
pub mod PoolGraph
pub mod RetainedPool
pub mod FreshPool
pub mod RegisterLinks
pub mod Admission
