-- What the contracts cite.
pub mod Showing
