-- The goals of `below` that want a law of this crate.
use Rattle.shift_and_wide.proofs.Masks.{below_all, below_none, below-some}
use Rattle.shift_and_wide.proofs.below.Goals as goal

pub returns-then-k-from : goal.returns-then-k-from
returns-then-k-from c = search below_none

pub returns-then-left-lt64 : goal.returns-then-left-lt64
returns-then-left-lt64 c = search below-some

pub returns : goal.returns
returns c = search below_all
