-- What the loop of `store_held` keeps.
use Rattle.plan_part.proofs.Fields.{Storing}
use Rattle.plan_part.proofs.store_held.Given as goal

abbrev pub invariant-loop-k : goal.invariant-loop-k
invariant-loop-k l = Storing l.initial.part l.h l.part l.k
