-- The laws.
pub mod Runs
pub mod Steps
pub mod Quiet
pub mod Parts
pub mod Ways
