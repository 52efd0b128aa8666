-- What the contracts cite.
pub mod Soundness
