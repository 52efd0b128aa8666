-- The goals of `advance` that want a law of this crate.
use Rattle.shift_and.specs.ForwardStep.{advance}
use Rattle.shift_and.proofs.advance.Goals as goal

pub returns : goal.returns
unfolding advance
returns c = cc
