-- The goals of `read_item` that want a law of this crate.
use Rattle.std.proofs.Common.{arith}
use Rattle.std.proofs.lemmas.Grind.{common_steps}
use Rattle.rule_class.proofs.Ends.{Stands, no_high, reversed, range}
use Rattle.rule_class.proofs.read_item.Goals as goal

pub returns-in_err-high : goal.returns-in_err-high
returns-in_err-high c =
    let d : Stands c.args.rule.now c.in_ok-low.next 45 = grind (arith, common_steps) in
    rw c.from_residual-in_err-high.ensures (no_high _ _ _ c.in_ok-get.ensures.lookup.3 c.if-branch-eq93.false _ _ c.in_ok-low.ensures d c.in_err-high.ensures)

pub returns-then-high-low : goal.returns-then-high-low
returns-then-high-low c =
    let d : Stands c.args.rule.now c.in_ok-low.next 45 = grind (arith, common_steps) in
    reversed _ _ _ c.in_ok-get.ensures.lookup.3 c.if-branch-eq93.false _ _ c.in_ok-low.ensures d _ _ c.in_ok-high.ensures c.if-high-low.true

pub returns : goal.returns
returns c =
    let d : Stands c.args.rule.now c.in_ok-low.next 45 = grind (arith, common_steps) in
    range _ _ _ c.in_ok-get.ensures.lookup.3 c.if-branch-eq93.false _ _ c.in_ok-low.ensures d _ _ c.in_ok-high.ensures c.if-high-low.false
