-- Laws on plain values; each function's own file only cites them.
pub mod CodeMasks
pub mod FitLaws
pub mod FittedMasks
