-- What the loop of `verify_windows` keeps, and what falls.
use Prim.Native.Nat.{◌-◌}
use lib.ListN.{length}
use Rattle.window_search.proofs.Searches.{SearchProgress}
use Rattle.window_search.proofs.Search.verify_windows.Given as goal

abbrev pub invariant-loop-w : goal.invariant-loop-w
invariant-loop-w g l = SearchProgress (g.R.Reader.automaton l.self.forward.now) (g.R.Reader.automaton l.self.reversed.now) l.self.size l.text l.initial.starts l.starts l.w l.count l.tried l.spent

abbrev pub decreases-loop-w : goal.decreases-loop-w
decreases-loop-w g l = length l.text - l.w
