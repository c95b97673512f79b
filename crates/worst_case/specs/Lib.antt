pub mod WorstCase
pub mod WorstCaseTheorem
pub mod Example
