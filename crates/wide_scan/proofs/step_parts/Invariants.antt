-- What the loop of `step_parts` keeps, and what falls.
use Prim.Native.Nat.{◌-◌}
use lib.ListN.{length}
use Rattle.wide_scan.proofs.Parts.{Parting}
use Rattle.wide_scan.proofs.step_parts.Given as goal

abbrev pub invariant-loop-i : goal.invariant-loop-i
invariant-loop-i l = Parting l.table l.m l.p l.initial.s l.text l.initial.ends l.ends l.room l.s l.i

abbrev pub decreases-loop-i : goal.decreases-loop-i
decreases-loop-i l = length l.text - l.i
