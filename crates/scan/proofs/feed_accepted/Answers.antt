-- The goals of `feed_accepted` that want a law of this crate.
use Rattle.scan.proofs.Outcomes.{feed-stored}
use Rattle.scan.proofs.feed_accepted.Goals as goal

pub returns : goal.returns
returns c = search feed-stored
