-- The goals of `flood_word_turned` that want a law of this crate.
use Rattle.shift_and_wide.proofs.FourWords.{word_floods_turned}
use Rattle.shift_and_wide.proofs.flood_word_turned.Goals as goal

pub returns : goal.returns
returns c = search word_floods_turned
