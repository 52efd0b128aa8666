-- What the contracts cite.
pub mod PlanPart
