-- What the contracts cite.
pub mod Stepping
pub mod ClosedStates
