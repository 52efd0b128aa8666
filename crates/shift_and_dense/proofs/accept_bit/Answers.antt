-- The goals of `accept_bit` that want a law of this crate.
use Rattle.shift_and_dense.proofs.BranchlessLaws.{report_is}
use Rattle.shift_and_dense.proofs.accept_bit.Goals as goal

pub returns : goal.returns
returns c = search report_is
