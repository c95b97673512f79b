pub mod CheckedPools
pub mod Table
