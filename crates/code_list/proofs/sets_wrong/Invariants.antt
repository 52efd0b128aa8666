-- What the loop of `sets_wrong` keeps.
use Rattle.std.proofs.Common.{length}
use Rattle.code_list.proofs.CodeLists.{Judging}
use Rattle.code_list.proofs.sets_wrong.Given as goal

abbrev pub invariant-loop-set : goal.invariant-loop-set
invariant-loop-set l = Judging l.codes l.sets (length l.yielded) l.set-iterator
