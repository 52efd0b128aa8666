-- The goals of `shortest` that want a law of this crate.
use Rattle.shift_and_wide.proofs.Wides.{four_required}
use Rattle.shift_and_wide.proofs.shortest.Goals as goal

pub returns : goal.returns
returns c = search four_required
