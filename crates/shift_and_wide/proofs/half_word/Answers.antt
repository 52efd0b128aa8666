-- The goals of `half_word` that want a law of this crate.
use Rattle.shift_and_wide.proofs.FourWords.{half-one, half_zero}
use Rattle.shift_and_wide.proofs.half_word.Goals as goal

pub returns-then-c-eq0 : goal.returns-then-c-eq0
returns-then-c-eq0 c = search half_zero

pub returns : goal.returns
returns c = search half-one
