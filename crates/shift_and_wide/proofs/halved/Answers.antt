-- The goals of `halved` that want a law of this crate.
use Rattle.shift_and_wide.proofs.Masks.{halved_is}
use Rattle.shift_and_wide.proofs.halved.Goals as goal

pub returns : goal.returns
returns c = search halved_is
