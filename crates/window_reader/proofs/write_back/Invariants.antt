-- What the loop of `write_back` keeps, and what falls.
use Rattle.window_reader.proofs.BackLaws.{Writing}
use Rattle.window_reader.proofs.write_back.Given as goal

abbrev pub invariant-loop-p : goal.invariant-loop-p
invariant-loop-p g l = Writing (g.R.Reader.automaton l.reversed) l.text l.from l.initial.starts l.first l.starts (g.R.State.States.number l.d) l.p l.j

abbrev pub decreases-loop-p : goal.decreases-loop-p
decreases-loop-p g l = l.j
