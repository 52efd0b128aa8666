-- The laws.
pub mod Steps
