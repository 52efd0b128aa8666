-- Laws on plain values; each function's own file only cites them.
pub mod StepLaws
pub mod FrontLaws
pub mod BackLaws
pub mod RewriteLaws
