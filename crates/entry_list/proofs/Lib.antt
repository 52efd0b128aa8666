-- Laws on plain values; each function's own file only cites them.
pub mod Spread
pub mod MarkLaws
pub mod Walks
pub mod Links
pub mod Runs
