-- The goals of `flood` that want a law of this crate.
use Rattle.shift_and_wide.proofs.FourWords.{four_flood}
use Rattle.shift_and_wide.proofs.flood.Goals as goal

pub returns : goal.returns
returns c = search four_flood
