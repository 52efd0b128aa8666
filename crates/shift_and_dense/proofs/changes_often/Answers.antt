-- The goals of `changes_often` that want a law of this crate.
use Rattle.shift_and_dense.proofs.BranchlessLaws.{steps_on}
use Rattle.shift_and_dense.proofs.changes_often.Goals as goal

pub loop-i-preserved : goal.loop-i-preserved
loop-i-preserved c = search steps_on
