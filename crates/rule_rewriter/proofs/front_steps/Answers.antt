-- The goals of `front_steps` that want a law of this crate.
use native.Mathlib.Omega.{arith}
use Rattle.rule_rewriter.proofs.FrontLaws.{front-begun, front_never, front-stays, front-room, front-done, front_less, front-again, front-over}
use Rattle.rule_rewriter.proofs.front_steps.Goals as goal

pub loop-at-init : goal.loop-at-init
loop-at-init c = search front-begun

pub read_element-requires : goal.read_element-requires
read_element-requires c = record { at_in_bounds = c.loop-at-test.true; used_le_position_limit = c.loop-at.invariant.readable.within }

pub returns-in_default : goal.returns-in_default
returns-in_default c = front_never _ _ _ _ c.loop-at.invariant c.loop-at-test.true _ c.in_default.ensures

pub returns-in_default-step_of : goal.returns-in_default-step_of
returns-in_default-step_of c = front-stays _ _ _ _ c.loop-at.invariant c.loop-at-test.true _ _ c.in-Ok.ensures _ c.step_of.ensures c.in_default-step_of.is

pub overflow_add-used : goal.overflow_add-used
overflow_add-used c =
    let l = front-room _ _ _ _ c.loop-at.invariant c.loop-at-test.true _ _ c.in-Ok.ensures _ c.step_of.ensures _ c.size-used.ensures in
    omega (arith, l)

pub returns-then-a-gt0 : goal.returns-then-a-gt0
returns-then-a-gt0 c = front-done _ _ _ _ c.loop-at.invariant c.loop-at-test.true _ _ c.in-Ok.ensures _ c.step_of.ensures _ c.in-Some.is _ c.size-used.ensures c.if-a-gt0.true

pub loop-at-smaller : goal.loop-at-smaller
loop-at-smaller c = front_less _ _ _ _ c.loop-at.invariant c.loop-at-test.true _ _ c.in-Ok.ensures _ c.step_of.ensures

pub loop-at-preserved : goal.loop-at-preserved
loop-at-preserved c = front-again _ _ _ _ c.loop-at.invariant c.loop-at-test.true _ _ c.in-Ok.ensures _ c.step_of.ensures _ c.in-Some.is _ c.size-used.ensures c.if-a-gt0.false

pub returns : goal.returns
returns c = search front-over
