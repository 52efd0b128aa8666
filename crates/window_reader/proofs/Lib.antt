-- Laws on plain values; each function's own file only cites them.
pub mod Numbers
pub mod WideEntries
pub mod WindowLaws
pub mod VerifyLaws
pub mod BackLaws
pub mod Steps
pub mod Shifts
pub mod Ends
pub mod Reversed
