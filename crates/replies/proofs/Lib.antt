pub mod Decimals
pub mod Putting
