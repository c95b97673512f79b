pub mod Reads
pub mod SameFile
pub mod Examples
