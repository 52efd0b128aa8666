-- Laws of one reference, bottom up.
pub mod Numbers
pub mod Readings
pub mod Writing
