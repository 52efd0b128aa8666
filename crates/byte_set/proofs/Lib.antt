-- Laws on plain values; each function's own file only cites them.
-- The fold: the old table, and that the formula gives each of its entries by one computed test.
pub mod Table
pub mod Fold
-- The loops of src/lib.rt; which bytes a set holds, and that a class's set is the model's.
pub mod SetSteps
pub mod SetLaws
