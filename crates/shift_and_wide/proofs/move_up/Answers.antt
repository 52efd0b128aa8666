-- The goals of `move_up` that want a law of this crate.
use Rattle.shift_and_wide.proofs.FourWords.{four_move}
use Rattle.shift_and_wide.proofs.move_up.Goals as goal

pub returns : goal.returns
returns c = search four_move
