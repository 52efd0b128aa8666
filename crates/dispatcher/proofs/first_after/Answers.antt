-- The goals of `first_after` that want a law of this crate.
use Rattle.dispatcher.proofs.Answering.{first-is}
use Rattle.dispatcher.proofs.first_after.Goals as goal

pub returns : goal.returns
returns c = search first-is
