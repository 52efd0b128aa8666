-- What the contracts cite.
pub mod Bounds
