-- What the contracts cite.
pub mod Gathering
pub mod Preparing
