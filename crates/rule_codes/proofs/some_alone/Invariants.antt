-- What the loop of `some_alone` keeps, and what falls.
use Prim.Native.Nat.{◌-◌}
use lib.ListN.{length}
use Rattle.model.specs.RuleText.{fold_flag}
use Rattle.model.specs.NumberedAnswers.{rule_positions}
use Rattle.rule_codes.proofs.AloneLaws.{Judging}
use Rattle.rule_codes.proofs.some_alone.Given as goal

abbrev pub invariant-loop-at : goal.invariant-loop-at
invariant-loop-at l = Judging l.f l.rule l.codes (rule_positions (fold_flag l.fold) l.rule) l.at l.used

abbrev pub decreases-loop-at : goal.decreases-loop-at
decreases-loop-at l = length l.rule - l.at
