-- What the contracts cite.
pub mod Choosing
