-- The goals of `place` that want a law of this crate.
use Rattle.rule_table.proofs.GainLaws.{placed}
use Rattle.rule_table.proofs.place.Goals as goal

pub returns : goal.returns
returns c = search placed
