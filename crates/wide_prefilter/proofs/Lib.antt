-- The laws.
pub mod Narrow
pub mod Ways
