-- What the contracts cite.
pub mod Value
