pub mod Words
pub mod Reading
pub mod Scanning
pub mod Digits
