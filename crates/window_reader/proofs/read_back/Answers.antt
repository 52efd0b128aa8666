-- The goals of `read_back` that want a law of this crate.
use Rattle.std.proofs.Common.{arith}
use Rattle.window_reader.proofs.WindowLaws.{look_emptied, look_begins, look_passed, look_over}
use Rattle.window_reader.proofs.read_back.Goals as goal

pub returns-then-is_empty : goal.returns-then-is_empty
returns-then-is_empty g c =
    look_emptied _ _ _ _ c.loop-i.invariant (omega (arith, c.loop-i-test.true)) c.byte_index-c.ensures.0 c.step_on-d.ensures (c.is_empty.ensures.none c.if-is_empty.true)

pub loop-i-preserved-then-accepts : goal.loop-i-preserved-then-accepts
loop-i-preserved-then-accepts g c =
    look_begins _ _ _ _ c.loop-i.invariant (omega (arith, c.loop-i-test.true)) c.byte_index-c.ensures.0 c.step_on-d.ensures (c.is_empty.ensures.some c.if-is_empty.false) c.accepts.ensures
    c.if-accepts.true

pub loop-i-preserved : goal.loop-i-preserved
loop-i-preserved g c =
    look_passed _ _ _ _ c.loop-i.invariant (omega (arith, c.loop-i-test.true)) c.byte_index-c.ensures.0 c.step_on-d.ensures (c.is_empty.ensures.some c.if-is_empty.false) c.accepts.ensures
    c.if-accepts.false

pub returns : goal.returns
returns g c = look_over _ _ _ _ c.loop-i.invariant _ _ _ (omega (arith, c.loop-i-test.false)) c.byte_index-c-2.ensures.0 c.step_on-d-2.ensures c.accepts-2.ensures
