pub mod Graph
pub mod Preorder
pub mod Dfs
pub mod Marking
pub mod Compare
pub mod Theorems
pub mod Example
