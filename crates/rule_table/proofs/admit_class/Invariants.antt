-- What the loop of `admit_class` keeps.
use Rattle.rule_table.specs.Tables.{in_set}
use Rattle.rule_table.proofs.GainLaws.{Gaining}
use Rattle.rule_table.proofs.admit_class.Given as goal

abbrev pub invariant-loop-c : goal.invariant-loop-c
invariant-loop-c l = Gaining (in_set l.set.words) l.bits l.initial.table l.table l.c
