-- The goals of `read_class` that want a law of this crate.
use Rattle.std.proofs.Common.{arith}
use Rattle.std.proofs.lemmas.Grind.{common_steps}
use Rattle.rule_element.proofs.Classes.{bracket_turned, bracket_plain}
use Rattle.rule_element.proofs.read_class.Goals as goal

pub returns-then-eq : goal.returns-then-eq
returns-then-eq c = bracket_turned _ _ _ c.requires _ (grind (arith, common_steps)) c.class_from.ensures

pub returns : goal.returns
returns c = bracket_plain _ _ _ c.requires _ (grind (arith, common_steps)) c.class_from-2.ensures
