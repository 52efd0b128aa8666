-- What the contracts cite.
pub mod Fixpoints
