-- What the loop of `both_cases` keeps.
use Rattle.byte_set.proofs.SetSteps.{Widening}
use Rattle.byte_set.proofs.ByteSet.both_cases.Given as goal

abbrev pub invariant-loop-c : goal.invariant-loop-c
invariant-loop-c l = Widening l.initial.wide.words l.wide.words l.c
