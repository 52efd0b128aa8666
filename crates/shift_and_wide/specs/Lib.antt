-- What the contracts cite.
pub mod ManyWords
pub mod Wides
pub mod Stepping
pub mod Examples
