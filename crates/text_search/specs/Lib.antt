-- What the contracts cite.
pub mod Searching
