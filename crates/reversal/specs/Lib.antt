pub mod CaseTheorem
pub mod Reached
pub mod Reversal
pub mod ReversalTheorem
pub mod Steps
pub mod Trace
