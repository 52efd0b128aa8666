-- The goals of `other_case` that want a law of this crate.
use Rattle.byte_set.proofs.Fold.{formula_is}
use Rattle.byte_set.proofs.other_case.Goals as goal

pub returns : goal.returns
returns c = search formula_is
