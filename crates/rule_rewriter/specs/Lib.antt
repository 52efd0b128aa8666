-- What the contracts cite.
pub mod Rewriting
