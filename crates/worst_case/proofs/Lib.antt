pub mod Comb
pub mod Built
pub mod Theorems
pub mod Example
