-- The goals of `move_word` that want a law of this crate.
use Rattle.shift_and_wide.proofs.FourWords.{word-moves}
use Rattle.shift_and_wide.proofs.move_word.Goals as goal

pub returns : goal.returns
returns c = search word-moves
