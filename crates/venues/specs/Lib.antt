-- What the theorem says.
pub mod Venues
pub mod Examples
