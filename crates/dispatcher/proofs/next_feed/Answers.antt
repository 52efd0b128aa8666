-- The goals of `next_feed` that want a law of this crate.
use Rattle.dispatcher.proofs.Answering.{place-fits, next-is}
use Rattle.dispatcher.proofs.next_feed.Goals as goal

pub overflow_add-place : goal.overflow_add-place
overflow_add-place c = search place-fits

pub returns : goal.returns
returns c = search next-is
