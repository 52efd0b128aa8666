-- What the loop of `decode_marked` keeps, and what falls.
use Prim.Native.Nat.{◌-◌}
use lib.ListN.{length}
use Rattle.piece_decoder.proofs.MarkedTokens.{Marking}
use Rattle.piece_decoder.proofs.decode_marked.Given as goal

abbrev pub invariant-loop-i : goal.invariant-loop-i
invariant-loop-i l = Marking l.raw l.initial.out l.out l.marks l.i l.at l.m

abbrev pub decreases-loop-i : goal.decreases-loop-i
decreases-loop-i l = length l.raw - l.i
