-- The goals of `borrowed` that want a law of this crate.
use Rattle.shift_and_wide.proofs.FourWords.{lent_by_i, lent_by_o, none_lent}
use Rattle.shift_and_wide.proofs.borrowed.Goals as goal

pub returns-then-s-i : goal.returns-then-s-i
returns-then-s-i c = search lent_by_i

pub returns-then-r-o : goal.returns-then-r-o
returns-then-r-o c = search lent_by_o

pub returns : goal.returns
returns c = search none_lent
