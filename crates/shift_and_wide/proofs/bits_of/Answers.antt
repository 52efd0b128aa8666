-- The goals of `bits_of` that want a law of this crate.
use Rattle.shift_and_wide.proofs.Masks.{bits_are}
use Rattle.shift_and_wide.proofs.bits_of.Goals as goal

pub returns : goal.returns
returns c = search bits_are
