-- What the contracts cite.
pub mod Opening
