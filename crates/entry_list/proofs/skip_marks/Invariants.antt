-- What the loop of `skip_marks` keeps.
use Rattle.entry_list.proofs.Walks.{Skipping}
use Rattle.entry_list.proofs.skip_marks.Given as goal

abbrev pub invariant-loop-i : goal.invariant-loop-i
invariant-loop-i l = Skipping l.marks l.m l.q l.i
