-- The goals of `closure_masks` that want a law of this crate.
use Rattle.shift_and_step.proofs.Steps.{blocks_are}
use Rattle.shift_and_step.proofs.closure_masks.Goals as goal

pub returns : goal.returns
returns c = search blocks_are
