-- What the contracts cite.
pub mod RuleCodes
