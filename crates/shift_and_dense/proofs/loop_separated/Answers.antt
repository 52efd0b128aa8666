-- The goals of `loop_separated` that want a law of this crate.
use Rattle.shift_and_loop.proofs.LoopLaws.{set_out, loop_over, loop_ended, loop_passed}
use Rattle.shift_and_dense.proofs.loop_separated.Goals as goal

pub loop-i-init : goal.loop-i-init
loop-i-init c = search set_out

pub loop-i-preserved-then-accepts : goal.loop-i-preserved-then-accepts
loop-i-preserved-then-accepts c = search loop_ended

pub loop-i-preserved : goal.loop-i-preserved
loop-i-preserved c = search loop_passed

pub returns : goal.returns
returns c = search loop_over
