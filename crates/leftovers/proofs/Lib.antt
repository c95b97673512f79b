pub mod Lengths
pub mod Longer
pub mod Bodies
pub mod Unseen
pub mod Stay
