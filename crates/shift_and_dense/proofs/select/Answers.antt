-- The goals of `select` that want a law of this crate.
use Rattle.shift_and_dense.proofs.BranchlessLaws.{pick_is}
use Rattle.shift_and_dense.proofs.select.Goals as goal

pub returns : goal.returns
returns c = search pick_is
