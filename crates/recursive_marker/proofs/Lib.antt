pub mod CellVisit
pub mod Registers
