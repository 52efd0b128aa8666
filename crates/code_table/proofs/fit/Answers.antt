-- The goals of `fit` that want a law of this crate.
use Rattle.code_table.proofs.FitLaws.{table-begun, table-room, word-fittable, table-turn, table-over}
use Rattle.code_table.proofs.fit.Goals as goal

pub loop-word-init : goal.loop-word-init
loop-word-init c = search table-begun

pub slice_bounds-fit_word-end : goal.slice_bounds-fit_word-end
slice_bounds-fit_word-end c = search table-room

pub fit_word-requires : goal.fit_word-requires
fit_word-requires c = search word-fittable

pub loop-word-preserved : goal.loop-word-preserved
loop-word-preserved c = search table-turn

pub returns : goal.returns
returns c = search table-over
