-- The goals of `exports.jazhuppe_prepare` that want a law of this crate.
use Rattle.std.proofs.lemmas.Result.{MatchResult-at_ok, MatchResult-at_err}
use Rattle.jazhuppe.proofs.Prepares.{rule_accepted, rule_refused}
use Rattle.jazhuppe.proofs.exports.jazhuppe_prepare.Goals as goal

pub returns-in-Ok : goal.returns-in-Ok
returns-in-Ok c = let t = MatchResult-at_ok _ _ _ c.in-Ok.is c.prepare.ensures in search rule_accepted

pub returns-in-Err : goal.returns-in-Err
returns-in-Err c = let t = MatchResult-at_err _ _ _ c.in-Err.is c.prepare.ensures in search rule_refused
