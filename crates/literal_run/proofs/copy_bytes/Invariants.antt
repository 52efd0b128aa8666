-- What the loop of `copy_bytes` keeps.
use Rattle.literal_run.proofs.LiteralLaws.{Copying}
use Rattle.literal_run.proofs.copy_bytes.Given as goal

abbrev pub invariant-loop-j : goal.invariant-loop-j
invariant-loop-j l = Copying l.raw l.i l.initial.out l.out l.j
