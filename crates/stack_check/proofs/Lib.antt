pub mod Marked
pub mod Walking
pub mod Entries
pub mod Descending
