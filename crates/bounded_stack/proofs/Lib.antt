pub mod Cleared
pub mod HandLoop
pub mod RootLoop
