-- The goals of `byte_or_zero` that want a law of this crate.
use Rattle.reference_reader.proofs.Numbers.{past}
use Rattle.reference_reader.proofs.byte_or_zero.Goals as goal

pub returns : goal.returns
returns c = search past
