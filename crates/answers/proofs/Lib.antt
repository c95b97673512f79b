pub mod Determined
pub mod Flags
