-- The goals of `some_alone` that want a law of this crate.
use native.Mathlib.Omega.{arith}
use Rattle.rule_codes.proofs.AloneLaws.{judge_begun, judge_never, judge_less, judge_room, judge_alone, judge_on, judge_over}
use Rattle.rule_codes.proofs.some_alone.Goals as goal

pub loop-at-init : goal.loop-at-init
loop-at-init c = search judge_begun

pub returns-in_default : goal.returns-in_default
returns-in_default c = judge_never _ _ _ c.requires _ _ _ _ c.loop-at.invariant c.loop-at-test.true _ c.in_default.ensures

pub returns-then-kind_alone : goal.returns-then-kind_alone
returns-then-kind_alone c = judge_alone _ _ _ c.requires _ _ _ _ c.loop-at.invariant c.loop-at-test.true _ _ c.in-Ok.ensures _ _ c.code_set-all.ensures c.kind_alone.ensures c.if-kind_alone.true

pub overflow_add-used : goal.overflow_add-used
overflow_add-used c =
    let l = judge_room _ _ _ c.requires _ _ _ _ c.loop-at.invariant c.loop-at-test.true _ _ c.in-Ok.ensures _ c.size-used.ensures in
    omega (arith, l)

pub loop-at-smaller : goal.loop-at-smaller
loop-at-smaller c = judge_less _ _ _ c.requires _ _ _ _ c.loop-at.invariant c.loop-at-test.true _ _ c.in-Ok.ensures

pub loop-at-preserved : goal.loop-at-preserved
loop-at-preserved c = judge_on _ _ _ c.requires _ _ _ _ c.loop-at.invariant c.loop-at-test.true _ _ c.in-Ok.ensures _ _ c.code_set-all.ensures c.kind_alone.ensures c.if-kind_alone.false _ c.size-used.ensures

pub returns : goal.returns
returns c = search judge_over
