-- The goals of `start_state` that want a law of this crate.
use Rattle.shift_and.specs.ForwardStep.{opening}
use Rattle.shift_and.proofs.start_state.Goals as goal

pub returns : goal.returns
unfolding opening
returns c = cc
