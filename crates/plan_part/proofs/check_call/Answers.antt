-- The goals of `check_call` that want a law of this crate.
use Rattle.plan_part.proofs.Checks.{already_finished_lem, too_much_lem, too_short_lem, accepted}
use Rattle.plan_part.proofs.check_call.Goals as goal

pub returns-then-part-gt0 : goal.returns-then-part-gt0
returns-then-part-gt0 c = search already_finished_lem

pub returns-then-over : goal.returns-then-over
returns-then-over c = search too_much_lem

pub returns-then-short : goal.returns-then-short
returns-then-short c = search too_short_lem

pub returns : goal.returns
returns c = search accepted
