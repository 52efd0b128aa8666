-- What the loop of `mirrored` keeps.
use Prim.Native.Nat.{◌-◌}
use Rattle.rule_table.proofs.Encoded.{Mirroring}
use Rattle.rule_table.proofs.mirrored.Given as goal

abbrev pub invariant-loop : goal.invariant-loop
invariant-loop l = Mirroring l.initial.from l.n l.to l.from (l.n - l.counter)
