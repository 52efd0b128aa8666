-- What the loop of `read_plane` keeps, and what falls.
use lib.ListN.{length}
use Prim.Native.Nat.{◌-◌}
use Rattle.model.specs.RuleText.{fold_flag}
use Rattle.model.specs.NumberedAnswers.{rule_positions}
use Rattle.rule_table.proofs.FillLaws.{Filling}
use Rattle.rule_table.proofs.read_plane.Given as goal

abbrev pub invariant-loop-at : goal.invariant-loop-at
invariant-loop-at l = Filling l.f l.rule (rule_positions (fold_flag l.fold) l.rule) l.reversed l.total l.word l.plane l.at l.used

abbrev pub decreases-loop-at : goal.decreases-loop-at
decreases-loop-at l = length l.rule - l.at
