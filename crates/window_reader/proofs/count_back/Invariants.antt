-- What the loop of `count_back` keeps.
use Rattle.window_reader.proofs.BackLaws.{Counting}
use Rattle.window_reader.proofs.count_back.Given as goal

abbrev pub invariant-loop-j : goal.invariant-loop-j
invariant-loop-j g l = Counting (g.R.Reader.automaton l.reversed) l.text l.from (g.R.State.States.number l.d) l.k l.j
