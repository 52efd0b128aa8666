-- Laws on plain values; each function's own file only cites them.
pub mod Unions
