-- What the contracts cite.
pub mod Tables
