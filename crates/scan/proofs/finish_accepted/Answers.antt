-- The goals of `finish_accepted` that want a law of this crate.
use Rattle.scan.proofs.Outcomes.{finish-stored}
use Rattle.scan.proofs.finish_accepted.Goals as goal

pub returns : goal.returns
returns c = search finish-stored
