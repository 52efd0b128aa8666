-- The goals of `move_up` that want a law of this crate.
use Rattle.std.proofs.Common.{rules}
use Rattle.shift_and.specs.ForwardStep.{move}
use Rattle.shift_and.proofs.move_up.Goals as goal

pub returns : goal.returns
unfolding move
returns c = search rules
