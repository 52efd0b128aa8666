-- What the contracts cite.
pub mod Items
