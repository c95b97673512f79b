pub mod Working
pub mod Whole
