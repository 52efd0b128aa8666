-- The goals of `closure_unpredictable` that want a law of this crate.
use Rattle.shift_and_step.proofs.Steps.{closed_by}
use Rattle.std.proofs.Common.{rules}
use Rattle.shift_and_dense.proofs.closure_unpredictable.Goals as goal

pub changes_often-requires : goal.changes_often-requires
changes_often-requires c = search (rules, closed_by)
