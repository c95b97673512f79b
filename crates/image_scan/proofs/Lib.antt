mod Ends
pub mod Scanning
