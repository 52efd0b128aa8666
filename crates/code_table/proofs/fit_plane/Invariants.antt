-- What the loop of `fit_plane` keeps.
use lib.ListN.{length}
use Rattle.code_table.proofs.FitLaws.{FittingOn}
use Rattle.code_table.proofs.fit_plane.Given as goal

abbrev pub invariant-loop-code : goal.invariant-loop-code
invariant-loop-code l = FittingOn l.codes l.sets l.initial.plane l.plane (length l.yielded) l.code-iterator
