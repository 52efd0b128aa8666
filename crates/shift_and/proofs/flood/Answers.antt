-- The goals of `flood` that want a law of this crate.
use Rattle.std.proofs.Common.{refl}
use Rattle.shift_and.specs.ForwardStep.{flood}
use Rattle.shift_and.proofs.flood.Goals as goal

pub returns : goal.returns
unfolding flood
returns c = refl
