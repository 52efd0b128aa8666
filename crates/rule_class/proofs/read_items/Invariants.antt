-- What the loop of `read_items` keeps, and what falls.
use lib.ListN.{length}
use Prim.Native.Nat.{◌-◌}
use Rattle.rule_class.proofs.Ends.{Reading}
use Rattle.rule_class.proofs.read_items.Given as goal

abbrev pub invariant-loop-low : goal.invariant-loop-low
invariant-loop-low l = Reading l.rule l.from l.set.words l.at

abbrev pub decreases-loop-low : goal.decreases-loop-low
decreases-loop-low l = length l.rule - l.at
