-- What the contracts cite.
pub mod CodeTables
