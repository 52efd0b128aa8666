-- Laws on plain values; each function's own file only cites them.
pub mod SegmentLaws
pub mod Pairs
pub mod SkipLaws
