-- Laws on plain values; each function's own file only cites them.
pub mod ElementMasks
pub mod RuleLaws
pub mod PrepareLaws
pub mod OuterGaps
