-- The goals of `blocks_of` that want a law of this crate.
use Rattle.shift_and_wide.proofs.Wides.{blocks_are}
use Rattle.shift_and_wide.proofs.blocks_of.Goals as goal

pub returns : goal.returns
returns c = search blocks_are
