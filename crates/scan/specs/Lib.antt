-- What the contracts cite.
pub mod Calls
