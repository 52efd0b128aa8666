-- The goals of `step_no_closure` that want a law of this crate.
use Rattle.shift_and_step.proofs.Steps.{step_plain}
use Rattle.shift_and_step.proofs.step_no_closure.Goals as goal

pub returns : goal.returns
returns c = search step_plain
