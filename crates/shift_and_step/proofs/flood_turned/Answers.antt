-- The goals of `flood_turned` that want a law of this crate.
use Rattle.shift_and_step.proofs.Steps.{flood-turned}
use Rattle.shift_and_step.proofs.flood_turned.Goals as goal

pub returns : goal.returns
returns c = search flood-turned
