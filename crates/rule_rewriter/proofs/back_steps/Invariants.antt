-- What the loop of `back_steps` keeps, and what falls.
use Prim.Native.Nat.{◌-◌}
use lib.ListN.{length}
use Rattle.rule_rewriter.proofs.BackLaws.{Backing}
use Rattle.rule_rewriter.proofs.back_steps.Given as goal

abbrev pub invariant-loop-at : goal.invariant-loop-at
invariant-loop-at l = Backing l.fold l.rule l.from l.at l.used l.cut

abbrev pub decreases-loop-at : goal.decreases-loop-at
decreases-loop-at l = length l.rule - l.at
