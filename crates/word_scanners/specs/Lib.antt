-- What the contracts cite.
pub mod Runners
