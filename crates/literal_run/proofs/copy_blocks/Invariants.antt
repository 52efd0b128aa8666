-- What the loop of `copy_blocks` keeps, and what falls.
use Rattle.literal_run.proofs.LiteralLaws.{Copying}
use lib.ListN.{length}
use Prim.Native.Nat.{◌-◌}
use Rattle.literal_run.proofs.copy_blocks.Given as goal

abbrev pub invariant-loop-i : goal.invariant-loop-i
invariant-loop-i l = Copying l.raw 0 l.initial.out l.out l.i

abbrev pub decreases-loop-i : goal.decreases-loop-i
decreases-loop-i l = length l.raw - l.i
