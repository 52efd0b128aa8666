-- The goals of `offer` that want a law of this crate.
use Rattle.dispatcher.proofs.Answering.{offer-above, offer-again, offer-fits, offer-taken}
use Rattle.dispatcher.proofs.offer.Goals as goal

pub returns-then-feed-gt-TOP_FEED : goal.returns-then-feed-gt-TOP_FEED
returns-then-feed-gt-TOP_FEED c = search offer-above

pub returns-then-above-eq1 : goal.returns-then-above-eq1
returns-then-above-eq1 c = search offer-again

pub overflow_add-now : goal.overflow_add-now
overflow_add-now c = search offer-fits

pub returns : goal.returns
returns c = search offer-taken
