-- What the loop of `reads` keeps.
use Rattle.whole_match.proofs.Readings.{Reading}
use Rattle.whole_match.proofs.reads.Given as goal

abbrev pub invariant-loop-b : goal.invariant-loop-b
invariant-loop-b g l = Reading (g.R.Reader.automaton l.forward) l.name (g.R.State.States.number l.d) l.b-index
