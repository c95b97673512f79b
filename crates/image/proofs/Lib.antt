pub mod Reading
pub mod Images
pub mod Decoding
pub mod OldForm
pub mod Example
