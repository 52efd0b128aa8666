-- The goals of `copy_part` that want a law of this crate.
use Rattle.literal_run.proofs.Blocks.{part-copied}
use Rattle.literal_run.proofs.copy_part.Goals as goal

pub returns : goal.returns
returns c = search part-copied
