-- Laws on plain values, bottom up.
pub mod Readings
pub mod CoverLaws
