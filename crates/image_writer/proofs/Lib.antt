pub mod ImageNumber
pub mod ImageBytes
