pub mod Members
pub mod StackSweep
pub mod StackCollects
pub mod StackExample
pub mod Determined
