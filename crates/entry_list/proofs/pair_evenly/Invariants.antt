-- What the loop of `pair_evenly` keeps.
use Rattle.entry_list.proofs.Spread.{Spreading}
use Rattle.entry_list.specs.Pairing.{even_place}
use Rattle.entry_list.proofs.pair_evenly.Given as goal

abbrev pub invariant-loop-j : goal.invariant-loop-j
invariant-loop-j l = Spreading (even_place l.at l.raw) l.k l.initial.ends l.j l.ends
