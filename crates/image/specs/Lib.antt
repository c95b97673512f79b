pub mod Kinds
pub mod Image
pub mod OneForm
pub mod OldForm
pub mod Example
