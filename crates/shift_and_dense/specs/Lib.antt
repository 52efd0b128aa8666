-- What the contracts cite.
pub mod Branchless
