pub mod StackCollect
pub mod StackTheorem
pub mod StackExample
