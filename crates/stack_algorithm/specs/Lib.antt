pub mod Stack
pub mod Steps
pub mod StackTheorem
pub mod Check
pub mod CheckTheorem
pub mod Comb
pub mod CheckExample
