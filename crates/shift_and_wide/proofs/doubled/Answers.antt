-- The goals of `doubled` that want a law of this crate.
use Rattle.shift_and_wide.proofs.Masks.{doubled_is}
use Rattle.shift_and_wide.proofs.doubled.Goals as goal

pub returns : goal.returns
returns c = search doubled_is
