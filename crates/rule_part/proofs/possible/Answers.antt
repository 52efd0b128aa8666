-- The goals of `possible` that want a law of this crate.
use Rattle.rule_part.proofs.RuleFields.{no_position, positions_tested}
use Rattle.rule_part.proofs.possible.Goals as goal

pub returns-then-part-lt1 : goal.returns-then-part-lt1
returns-then-part-lt1 c = search no_position

pub returns : goal.returns
returns c = search positions_tested
