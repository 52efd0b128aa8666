-- The goals of `read_of` that want a law of this crate.
use Rattle.scan_value.proofs.Checks.{held-within, read_is}
use Rattle.scan_value.proofs.read_of.Goals as goal

pub overflow_sub-result : goal.overflow_sub-result
overflow_sub-result c = search held-within

pub returns : goal.returns
returns c = search read_is
