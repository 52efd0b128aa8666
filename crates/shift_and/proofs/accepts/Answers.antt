-- The goals of `accepts` that want a law of this crate.
use Rattle.std.proofs.Common.{rules}
use Rattle.shift_and.specs.ForwardStep.{top_bit}
use Rattle.shift_and.proofs.accepts.Goals as goal

pub returns : goal.returns
unfolding top_bit
returns c = search rules
