-- What the loop of `front_steps` keeps, and what falls.
use Prim.Native.Nat.{◌-◌}
use lib.ListN.{length}
use Rattle.rule_rewriter.proofs.FrontLaws.{Fronting}
use Rattle.rule_rewriter.proofs.front_steps.Given as goal

abbrev pub invariant-loop-at : goal.invariant-loop-at
invariant-loop-at l = Fronting l.fold l.rule l.at l.used

abbrev pub decreases-loop-at : goal.decreases-loop-at
decreases-loop-at l = length l.rule - l.at
