-- The goals of `block_ends` that want a law of this crate.
use Rattle.shift_and_wide.proofs.FourWords.{four_ends}
use Rattle.shift_and_wide.proofs.block_ends.Goals as goal

pub returns : goal.returns
returns c = search four_ends
