-- The goals of `slots` that want a law of this crate.
use Rattle.rule_table.proofs.GainLaws.{slots_back, slots_on}
use Rattle.rule_table.proofs.slots.Goals as goal

pub returns-then-reversed : goal.returns-then-reversed
returns-then-reversed c = search slots_back

pub returns : goal.returns
returns c = search slots_on
