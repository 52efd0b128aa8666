-- What the loop of `last_byte_states` keeps.
use Rattle.window_reader.proofs.WindowLaws.{Stepping}
use Rattle.window_reader.proofs.last_byte_states.Given as goal

abbrev pub invariant-loop-c : goal.invariant-loop-c
invariant-loop-c g l = Stepping (g.R.Reader.automaton l.reversed) g.R.State.States.table_words g.R.State.States.entry_of l.first l.c
