-- Laws on plain values; each function's own file only cites them.
pub mod Checks
pub mod Fields
pub mod Readback
