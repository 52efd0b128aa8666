-- The goals of `flag` that want a law of this crate.
use Rattle.dispatcher.proofs.Answering.{flag_is}
use Rattle.dispatcher.proofs.flag.Goals as goal

pub returns : goal.returns
returns c = search flag_is
