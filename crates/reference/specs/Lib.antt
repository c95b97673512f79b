pub mod Model
pub mod Equivalence
pub mod Examples
pub mod RunEquivalence
