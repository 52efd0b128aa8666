-- What the contracts cite.
pub mod Marks
pub mod Pairing
