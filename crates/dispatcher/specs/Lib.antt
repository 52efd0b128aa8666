-- What the contracts cite.
pub mod Dispatching
