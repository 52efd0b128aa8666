-- The goals of `block_starts` that want a law of this crate.
use Rattle.shift_and_wide.proofs.FourWords.{four_starts}
use Rattle.shift_and_wide.proofs.block_starts.Goals as goal

pub returns : goal.returns
returns c = search four_starts
