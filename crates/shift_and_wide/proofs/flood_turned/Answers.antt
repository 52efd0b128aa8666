-- The goals of `flood_turned` that want a law of this crate.
use Rattle.shift_and_wide.proofs.FourWords.{four_flood}
use Rattle.shift_and_wide.proofs.flood_turned.Goals as goal

pub returns : goal.returns
returns c = search four_flood
