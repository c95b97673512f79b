pub mod Determined
pub mod SavedImage
pub mod Renumbering
pub mod RoundTrip
