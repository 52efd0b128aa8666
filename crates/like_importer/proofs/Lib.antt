-- Laws on plain values, bottom up.
pub mod ItemLaws
pub mod MeasureLaws
pub mod ImportLaws
