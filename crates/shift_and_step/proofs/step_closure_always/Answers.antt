-- The goals of `step_closure_always` that want a law of this crate.
use Rattle.shift_and_step.proofs.Steps.{has-start, step_flood}
use Rattle.shift_and_step.proofs.step_closure_always.Goals as goal

pub move_keeping_start-x-requires : goal.move_keeping_start-x-requires
move_keeping_start-x-requires c = search has-start

pub returns : goal.returns
returns c = search step_flood
