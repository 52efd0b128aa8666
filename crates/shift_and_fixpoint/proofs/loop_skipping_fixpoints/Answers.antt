-- The goals of `loop_skipping_fixpoints` that want a law of this crate.
use Rattle.shift_and_loop.proofs.LoopLaws.{set_out, loop_over}
use Rattle.shift_and_fixpoint.proofs.FixpointLaws.{stay_over, stay_passed, stay_ended, stay_stopped}
use borrow.Author.Rules.{rules}
use Rattle.shift_and_fixpoint.proofs.loop_skipping_fixpoints.Goals as goal

pub loop-i-init : goal.loop-i-init
loop-i-init c = search set_out

pub returns-then-j-until : goal.returns-then-j-until
returns-then-j-until c = search stay_over

pub offset_bounds-ends-n : goal.offset_bounds-ends-n
offset_bounds-ends-n c = search (rules, c.slice_known-1.given)

pub loop-i-preserved-then-accepts : goal.loop-i-preserved-then-accepts
loop-i-preserved-then-accepts c = search stay_ended

pub returns-then-stop-i : goal.returns-then-stop-i
returns-then-stop-i c = search stay_stopped

pub loop-i-preserved-else-stop-i : goal.loop-i-preserved-else-stop-i
loop-i-preserved-else-stop-i c = search stay_passed

pub loop-i-preserved : goal.loop-i-preserved
loop-i-preserved c = search stay_passed

pub returns : goal.returns
returns c = search loop_over
