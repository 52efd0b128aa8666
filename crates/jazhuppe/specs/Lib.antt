-- What the contracts cite.
pub mod Preparing
