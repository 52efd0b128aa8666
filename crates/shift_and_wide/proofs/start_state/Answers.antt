-- The goals of `start_state` that want a law of this crate.
use Rattle.shift_and_wide.specs.Wides.{opening_of}
use Rattle.shift_and_wide.proofs.start_state.Goals as goal

pub returns : goal.returns
unfolding opening_of
returns c = cc
