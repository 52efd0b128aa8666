-- What the contracts cite.
pub mod Reading
