-- What the loop of `read_rule` keeps, and what falls.
use lib.ListN.{length}
use Prim.Native.Nat.{◌-◌}
use Rattle.rule_parser.proofs.RuleLaws.{Parsing}
use Rattle.rule_parser.proofs.read_rule.Given as goal

abbrev pub invariant-loop-at : goal.invariant-loop-at
invariant-loop-at l = Parsing l.fold l.rule l.t l.at l.last

abbrev pub decreases-loop-at : goal.decreases-loop-at
decreases-loop-at l = length l.rule - l.at
