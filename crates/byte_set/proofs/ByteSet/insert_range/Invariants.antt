-- What the loop of `insert_range` keeps.
use Rattle.byte_set.proofs.SetSteps.{Adding}
use Rattle.byte_set.proofs.ByteSet.insert_range.Given as goal

abbrev pub invariant-loop-c : goal.invariant-loop-c
invariant-loop-c l = Adding l.initial.self.words l.low l.high l.self.words l.c
