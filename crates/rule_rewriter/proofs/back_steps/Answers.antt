-- The goals of `back_steps` that want a law of this crate.
use native.Mathlib.Omega.{arith}
use Rattle.rule_rewriter.proofs.BackLaws.{back-begun, back_never, back-room, back_less, back-turn, back-over}
use Rattle.rule_rewriter.proofs.back_steps.Goals as goal

pub loop-at-init : goal.loop-at-init
loop-at-init c = search back-begun

pub read_element-requires : goal.read_element-requires
read_element-requires c = record { at_in_bounds = c.loop-at-test.true; used_le_position_limit = c.loop-at.invariant.readable.within }

pub returns-in_default : goal.returns-in_default
returns-in_default c = back_never _ _ _ _ _ _ c.loop-at.invariant c.loop-at-test.true _ c.in_default.ensures

pub overflow_add-used : goal.overflow_add-used
overflow_add-used c =
    let l = back-room _ _ _ _ _ _ c.loop-at.invariant c.loop-at-test.true _ _ c.in-Ok.ensures _ c.size-used.ensures in
    omega (arith, l)

pub loop-at-smaller : goal.loop-at-smaller
loop-at-smaller c = back_less _ _ _ _ _ _ c.loop-at.invariant c.loop-at-test.true _ _ c.in-Ok.ensures

pub loop-at-preserved : goal.loop-at-preserved
loop-at-preserved c = back-turn _ _ _ _ _ _ c.loop-at.invariant c.loop-at-test.true _ _ c.in-Ok.ensures _ c.cut_after-cut.ensures _ c.size-used.ensures

pub returns : goal.returns
returns c = search back-over
