-- The goals of `entry` that want a law of this crate.
use Rattle.shift_and_wide.proofs.Wides.{entry-is}
use Rattle.shift_and_wide.proofs.entry.Goals as goal

pub returns : goal.returns
returns c = search entry-is
