-- The goals of `laid` that want a law of this crate.
use Rattle.shift_and_wide.proofs.Masks.{laid_is}
use Rattle.shift_and_wide.proofs.laid.Goals as goal

pub returns : goal.returns
returns c = search laid_is
