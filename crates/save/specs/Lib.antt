pub mod Save
pub mod RoundTrip
