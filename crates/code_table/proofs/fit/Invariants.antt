-- What the loop of `fit` keeps.
use Rattle.code_table.proofs.FitLaws.{FittingTable}
use Rattle.code_table.proofs.fit.Given as goal

abbrev pub invariant-loop-word : goal.invariant-loop-word
invariant-loop-word l = FittingTable l.codes l.sets l.total l.initial.table l.table l.word
