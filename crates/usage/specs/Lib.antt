pub mod Tallies
pub mod Numbers
