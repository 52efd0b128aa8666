-- What the contracts cite.
pub mod RulePart
