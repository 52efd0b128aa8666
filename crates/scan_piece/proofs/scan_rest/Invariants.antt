-- What the loop of `scan_rest` keeps, and what falls.
use Prim.Native.Nat.{◌-◌}
use lib.ListN.{length}
use Rattle.piece_stepping.proofs.Pieces.{Resting}
use Rattle.scan_piece.proofs.scan_rest.Given as goal

abbrev pub invariant-loop-i : goal.invariant-loop-i
invariant-loop-i g l = Resting (g.A.Scanner.runner l.scanner) l.initial.s l.piece l.from l.initial.ends l.s l.i l.ends

abbrev pub decreases-loop-i : goal.decreases-loop-i
decreases-loop-i g l = length l.piece - l.i
