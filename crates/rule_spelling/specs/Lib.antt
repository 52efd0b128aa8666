-- What is claimed of the rewriter and of imported rules, and closed cases of them.
pub mod Retired
pub mod LikeRules
pub mod LongRules
