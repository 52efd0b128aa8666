-- The goals of `loop_closure_if_needed` that want a law of this crate.
use Rattle.shift_and_loop.proofs.LoopLaws.{set_out, loop_passed, loop_ended, loop_stopped, loop_over}
use Rattle.shift_and_loop.proofs.loop_closure_if_needed.Goals as goal

pub loop-i-init : goal.loop-i-init
loop-i-init c = search set_out

pub loop-i-preserved-then-accepts : goal.loop-i-preserved-then-accepts
loop-i-preserved-then-accepts c = search loop_ended

pub returns-then-stop-i : goal.returns-then-stop-i
returns-then-stop-i c = search loop_stopped

pub loop-i-preserved-else-stop-i : goal.loop-i-preserved-else-stop-i
loop-i-preserved-else-stop-i c = search loop_passed

pub loop-i-preserved : goal.loop-i-preserved
loop-i-preserved c = search loop_passed

pub returns : goal.returns
returns c = search loop_over
