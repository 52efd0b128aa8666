-- The goals of `low_ones` that want a law of this crate.
use Rattle.std.proofs.Common.{rules}
use Rattle.shift_and_wide.proofs.Masks.{ones_are, some_shifted}
use Rattle.shift_and_wide.proofs.low_ones.Goals as goal

pub overflow_sub-result : goal.overflow_sub-result
overflow_sub-result c = search (rules, some_shifted)

pub returns : goal.returns
returns c = search ones_are
