-- Laws on plain values; each function's own file only cites them.
pub mod Rests
pub mod Tries
pub mod Searches
pub mod Shows
