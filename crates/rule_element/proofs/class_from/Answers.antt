-- The goals of `class_from` that want a law of this crate.
use Rattle.std.proofs.Common.{Some, arith, sym, ◌∙◌}
use Rattle.std.proofs.lemmas.Grind.{common_steps}
use Rattle.rule_class.specs.Items.{ReadsItems}
use Rattle.rule_element.proofs.Classes.{class_bare, class-good}
use Rattle.rule_element.proofs.class_from.Goals as goal

pub returns-then-is_empty : goal.returns-then-is_empty
returns-then-is_empty c =
    let r : ReadsItems c.args.rule.now c.args.from (Some (c.in_ok-ranges.ranges, c.in_ok-ranges.next)) = grind (arith, common_steps) in
    class_bare _ _ _ _ (grind (arith, common_steps)) _ _ r _ c.of_class-set.ensures (sym c.is_empty.ensures ∙ c.if-is_empty.true)

pub returns : goal.returns
returns c =
    let r : ReadsItems c.args.rule.now c.args.from (Some (c.in_ok-ranges.ranges, c.in_ok-ranges.next)) = grind (arith, common_steps) in
    class-good _ _ _ _ (grind (arith, common_steps)) _ _ r _ c.of_class-set.ensures (sym c.is_empty.ensures ∙ c.if-is_empty.false)
