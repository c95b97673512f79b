pub mod Encoding
pub mod Decoding
pub mod Reading
pub mod Writing
pub mod Theorems
