-- What the loop of `pair_unevenly` keeps.
use Rattle.entry_list.proofs.Walks.{Walking}
use Rattle.entry_list.proofs.pair_unevenly.Given as goal

abbrev pub invariant-loop-j : goal.invariant-loop-j
invariant-loop-j l = Walking l.at l.raw l.marks l.count l.k l.initial.ends l.j l.m l.ends
