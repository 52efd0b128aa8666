-- The goals of `step` that want a law of this crate.
use Rattle.shift_and_wide.proofs.Wides.{step_free}
use Rattle.shift_and_wide.specs.Wides.{stepped}
use Rattle.shift_and_wide.proofs.step.Goals as goal

pub returns-then-x : goal.returns-then-x
unfolding stepped
returns-then-x c = cc

pub returns : goal.returns
returns c = search step_free
