-- What the contracts cite.
pub mod Importing
