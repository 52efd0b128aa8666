-- The goals of `move_keeping_start` that want a law of this crate.
use Rattle.shift_and.proofs.ClosedStates.{move_fold}
use Rattle.shift_and_step.proofs.move_keeping_start.Goals as goal

pub returns : goal.returns
returns c = search move_fold
