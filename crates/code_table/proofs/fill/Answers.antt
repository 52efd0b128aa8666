-- The goals of `fill` that want a law of this crate.
use Rattle.code_table.proofs.FitLaws.{table-fittable, table_fitted}
use Rattle.code_table.proofs.fill.Goals as goal

pub fit-requires : goal.fit-requires
fit-requires c = search table-fittable

pub returns : goal.returns
returns c = search table_fitted
