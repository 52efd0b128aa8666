-- The goals of `loop_branchless` that want a law of this crate.
use Rattle.shift_and_loop.proofs.LoopLaws.{set_out, loop_over}
use Rattle.shift_and_dense.proofs.BranchlessLaws.{loop_dense}
use Rattle.shift_and_dense.proofs.loop_branchless.Goals as goal

pub loop-i-init : goal.loop-i-init
loop-i-init c = search set_out

pub loop-i-preserved : goal.loop-i-preserved
loop-i-preserved c = search loop_dense

pub returns : goal.returns
returns c = search loop_over
