-- The goals of `flood_guarded` that want a law of this crate.
use Rattle.shift_and_step.proofs.Steps.{flood-free}
use Rattle.shift_and_step.proofs.flood_guarded.Goals as goal

pub returns : goal.returns
returns c = search flood-free
