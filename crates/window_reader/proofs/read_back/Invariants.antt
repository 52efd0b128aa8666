-- What the loop of `read_back` keeps.
use Prim.Native.Nat.{◌-◌}
use Rattle.window_reader.specs.Reading.{Unread}
use Rattle.window_reader.proofs.read_back.Given as goal

abbrev pub invariant-loop-i : goal.invariant-loop-i
invariant-loop-i g l = Unread (g.R.Reader.automaton l.reversed) l.size l.text l.w (g.R.State.States.number l.d) l.last (l.i - 1)
