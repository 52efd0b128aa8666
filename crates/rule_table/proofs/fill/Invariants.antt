-- What the loop of `fill` keeps.
use Prim.Native.Nat.{◌*◌}
use Rattle.rule_table.proofs.FillLaws.{FillingPlanes}
use Rattle.rule_table.proofs.fill.Given as goal

abbrev pub invariant-loop-word : goal.invariant-loop-word
invariant-loop-word l = FillingPlanes l.fold l.rule l.reversed l.table l.word (l.word * 256)
