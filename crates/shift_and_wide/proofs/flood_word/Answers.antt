-- The goals of `flood_word` that want a law of this crate.
use Rattle.shift_and_wide.proofs.FourWords.{word_floods}
use Rattle.shift_and_wide.proofs.flood_word.Goals as goal

pub returns : goal.returns
returns c = search word_floods
