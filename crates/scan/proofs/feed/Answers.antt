-- The goals of `feed` that want a law of this crate.
use Rattle.std.proofs.lemmas.Result.{MatchResult-at_ok, MatchResult-at_err}
use Rattle.scan.proofs.Outcomes.{feed-refused, feed-let_in, feed-done}
use Rattle.scan.proofs.feed.Goals as goal

pub returns-in-Err : goal.returns-in-Err
returns-in-Err c = let t = MatchResult-at_err _ _ _ c.in-Err.is c.check_call.ensures in search feed-refused

pub returns-in-Ok : goal.returns-in-Ok
returns-in-Ok c = let t = MatchResult-at_ok _ _ _ c.in-Ok.is c.check_call.ensures in search feed-done

pub feed_accepted-requires : goal.feed_accepted-requires
feed_accepted-requires c = let t = MatchResult-at_ok _ _ _ c.in-Ok.is c.check_call.ensures in search feed-let_in
