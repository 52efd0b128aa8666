-- What the contracts cite.
pub mod Writing
