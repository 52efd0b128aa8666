-- The goals of `fixpoint_end` that want a law of this crate.
use Rattle.shift_and_fixpoint.proofs.FixpointLaws.{stay_none, stay_on}
use Rattle.shift_and_fixpoint.proofs.fixpoint_end.Goals as goal

pub returns-then-accepts : goal.returns-then-accepts
returns-then-accepts c = search stay_none

pub loop-j-init : goal.loop-j-init
loop-j-init c = search stay_none

pub loop-j-preserved : goal.loop-j-preserved
loop-j-preserved c = search stay_on
