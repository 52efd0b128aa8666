-- What the loop of `admit_all` keeps.
use Rattle.rule_table.specs.Tables.{always}
use Rattle.rule_table.proofs.GainLaws.{Gaining}
use Rattle.rule_table.proofs.admit_all.Given as goal

abbrev pub invariant-loop-entry : goal.invariant-loop-entry
invariant-loop-entry l = Gaining always l.bits l.initial.table l.table l.entry-index
