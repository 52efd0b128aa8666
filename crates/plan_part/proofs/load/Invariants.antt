-- What the loop of `load` keeps.
use Rattle.plan_part.proofs.Fields.{Loading}
use Rattle.plan_part.proofs.load.Given as goal

abbrev pub invariant-loop-j : goal.invariant-loop-j
invariant-loop-j l = Loading l.part l.t l.n l.j
