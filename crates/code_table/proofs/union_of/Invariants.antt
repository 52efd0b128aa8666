-- What the loop of `union_of` keeps.
use Rattle.code_table.proofs.FitLaws.{Uniting}
use Rattle.code_table.proofs.union_of.Given as goal

abbrev pub invariant-loop-x : goal.invariant-loop-x
invariant-loop-x l = Uniting l.plane l.set l.union l.x
