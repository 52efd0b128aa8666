-- Laws on plain values; each function's own file only cites them. The readers of src/lib.rt, from the smallest to the element.
pub mod Classes
pub mod KindLaws
pub mod Elements
pub mod RuleReading
