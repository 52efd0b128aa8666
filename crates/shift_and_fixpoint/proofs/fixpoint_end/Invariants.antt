-- What the loop of `fixpoint_end` keeps, and what falls.
use Prim.Native.Nat.{◌-◌}
use Rattle.shift_and_fixpoint.specs.Fixpoints.{SkippableUpTo}
use Rattle.shift_and_fixpoint.proofs.fixpoint_end.Given as goal

abbrev pub invariant-loop-j : goal.invariant-loop-j
invariant-loop-j l = SkippableUpTo l.table l.m l.d l.until l.text l.i l.j

abbrev pub decreases-loop-j : goal.decreases-loop-j
decreases-loop-j l = l.until - l.j
