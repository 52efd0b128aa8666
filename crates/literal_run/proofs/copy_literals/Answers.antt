-- The goals of `copy_literals` that want a law of this crate.
use Rattle.literal_run.proofs.LiteralLaws.{run-copied}
use Rattle.literal_run.proofs.copy_literals.Goals as goal

pub returns-then-raw-i-lt64 : goal.returns-then-raw-i-lt64
returns-then-raw-i-lt64 c = search run-copied

pub returns : goal.returns
returns c = search run-copied
