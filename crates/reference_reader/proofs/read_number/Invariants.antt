-- What the loop of `read_number` keeps, and what falls.
use Rattle.reference_reader.proofs.Numbers.{Numbering}
use lib.ListN.{length}
use Prim.Native.Nat.{◌-◌}
use Rattle.reference_reader.proofs.read_number.Given as goal

abbrev pub invariant-loop-i : goal.invariant-loop-i
invariant-loop-i l = Numbering l.hex l.from l.s l.value l.i

abbrev pub decreases-loop-i : goal.decreases-loop-i
decreases-loop-i l = length l.s - l.i
