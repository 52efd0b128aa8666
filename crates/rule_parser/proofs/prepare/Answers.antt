-- The goals of `prepare` that want a law of this crate.
use Rattle.rule_parser.proofs.OuterGaps.{first-gap, last-gap, no_outer}
use Rattle.rule_parser.proofs.prepare.Goals as goal

pub returns-then-unequal_at : goal.returns-then-unequal_at
returns-then-unequal_at c = search (first-gap, c.in_ok-stored.ensures)

pub returns-then-unequal_at-2 : goal.returns-then-unequal_at-2
returns-then-unequal_at-2 c = search (last-gap, c.in_ok-stored.ensures)

pub returns : goal.returns
returns c = search (no_outer, c.in_ok-stored.ensures)
