-- What the loop of `changes_often` keeps, and what falls.
use Rattle.std.proofs.Common.{◌-◌}
use Rattle.shift_and_step.specs.ClosedStates.{Closed}
use Rattle.shift_and_dense.proofs.changes_often.Given as goal

abbrev pub invariant-loop-i : goal.invariant-loop-i
invariant-loop-i l = Closed l.m l.d

abbrev pub decreases-loop-i : goal.decreases-loop-i
decreases-loop-i l = l.until - l.i
