pub mod Filling
pub mod Putting
pub mod Loading
pub mod LoadedPool
pub mod Theorems
