-- The goals of `read_rule` that want a law of this crate.
use native.Mathlib.Omega.{arith}
use Rattle.rule_parser.proofs.RuleLaws.{begun, rule-over, rule-refused, next_fits, next-ahead, rule-turn}
use Rattle.rule_parser.proofs.read_rule.Goals as goal

pub loop-at-init : goal.loop-at-init
loop-at-init c = search begun

pub returns-in-Err : goal.returns-in-Err
returns-in-Err c = rule-refused _ _ _ _ _ c.loop-at.invariant c.loop-at-test.true _ c.in-Err.ensures _ c.at.ensures

pub add_element-t-requires : goal.add_element-t-requires
add_element-t-requires c = next_fits _ _ _ _ _ c.loop-at.invariant c.loop-at-test.true _ _ c.in-Ok.ensures

pub loop-at-smaller : goal.loop-at-smaller
loop-at-smaller c = let m = next-ahead _ _ _ _ _ c.loop-at.invariant c.loop-at-test.true _ _ c.in-Ok.ensures in
    omega arith

pub loop-at-preserved : goal.loop-at-preserved
loop-at-preserved c = rule-turn _ _ _ _ _ c.loop-at.invariant c.loop-at-test.true _ _ c.in-Ok.ensures _ c.add_element-t.ensures

pub returns : goal.returns
returns c = search rule-over
