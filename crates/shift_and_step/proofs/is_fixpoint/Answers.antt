-- The goals of `is_fixpoint` that want a law of this crate.
use Rattle.shift_and_step.proofs.Steps.{stays_where}
use Rattle.shift_and_step.proofs.is_fixpoint.Goals as goal

pub returns : goal.returns
returns c = search stays_where
