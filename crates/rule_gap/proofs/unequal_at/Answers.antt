-- The goals of `unequal_at` that want a law of this crate.
use Rattle.std.proofs.Common.{arith}
use Rattle.std.proofs.lemmas.Grind.{common_steps}
use Rattle.rule_gap.proofs.GapLaws.{by_gap}
use Rattle.rule_gap.proofs.unequal_at.Goals as goal

pub returns : goal.returns
returns c = rw (by_gap c.args.rule.now c.args.at (grind (arith, common_steps)) (grind (arith, common_steps)) _ c.read_bounds.ensures) (grind (arith, common_steps))
