-- What the contracts cite.
pub mod Candidates
