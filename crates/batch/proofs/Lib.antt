pub mod Loop
pub mod Whole
