-- Laws on plain values; each function's own file only cites them.
pub mod Flags
pub mod Rounds
pub mod Answering
