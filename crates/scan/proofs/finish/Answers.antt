-- The goals of `finish` that want a law of this crate.
use Rattle.std.proofs.lemmas.Result.{MatchResult-at_ok, MatchResult-at_err}
use Rattle.scan.proofs.Outcomes.{finish-refused, finish-let_in, finish-done}
use Rattle.scan.proofs.finish.Goals as goal

pub returns-in-Err : goal.returns-in-Err
returns-in-Err c = let t = MatchResult-at_err _ _ _ c.in-Err.is c.check_call.ensures in search finish-refused

pub returns-in-Ok : goal.returns-in-Ok
returns-in-Ok c = let t = MatchResult-at_ok _ _ _ c.in-Ok.is c.check_call.ensures in search finish-done

pub finish_accepted-requires : goal.finish_accepted-requires
finish_accepted-requires c = let t = MatchResult-at_ok _ _ _ c.in-Ok.is c.check_call.ensures in search finish-let_in
