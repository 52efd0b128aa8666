-- What the loop of `loop_skipping_fixpoints` keeps, and what falls.
use Prim.Native.Nat.{◌-◌}
use Rattle.shift_and_loop.proofs.LoopLaws.{LoopInvariant}
use Rattle.shift_and_fixpoint.proofs.loop_skipping_fixpoints.Given as goal

abbrev pub invariant-loop-i : goal.invariant-loop-i
invariant-loop-i l = LoopInvariant l.table l.m l.until l.text l.initial.ends l.s l.ends l.d l.n l.i

abbrev pub decreases-loop-i : goal.decreases-loop-i
decreases-loop-i l = l.until - l.i
