pub mod Numbering
pub mod PoolNumbers
pub mod Walking
pub mod Turns
pub mod Listing
pub mod Ordering
