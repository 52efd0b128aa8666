-- The goals of `possible` that want a law of this crate.
use Rattle.plan_part.proofs.Checks.{finished-over, raw-over, decoded-over, held-over, counts-over, can_load, by_tail}
use Rattle.plan_part.proofs.possible.Goals as goal

pub returns-then-part-gt1 : goal.returns-then-part-gt1
returns-then-part-gt1 c = search finished-over

pub returns-then-part-gt-TEXT_LIMIT : goal.returns-then-part-gt-TEXT_LIMIT
returns-then-part-gt-TEXT_LIMIT c = search raw-over

pub returns-then-part-gt-TEXT_LIMIT-2 : goal.returns-then-part-gt-TEXT_LIMIT-2
returns-then-part-gt-TEXT_LIMIT-2 c = search decoded-over

pub returns-then-part : goal.returns-then-part
returns-then-part c = search held-over

pub returns-then-part-2 : goal.returns-then-part-2
returns-then-part-2 c = search counts-over

pub load-h-requires : goal.load-h-requires
load-h-requires c = search can_load

pub returns : goal.returns
returns c = search by_tail
