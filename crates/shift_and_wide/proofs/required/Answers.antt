-- The goals of `required` that want a law of this crate.
use Rattle.shift_and_wide.proofs.Wides.{required_is}
use Rattle.shift_and_wide.proofs.required.Goals as goal

pub returns : goal.returns
returns c = search required_is
