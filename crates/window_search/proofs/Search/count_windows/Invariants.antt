-- What the loop of `count_windows` keeps, and what falls.
use Prim.Native.Nat.{◌-◌}
use lib.ListN.{length}
use Rattle.window_search.proofs.Searches.{Trying}
use Rattle.window_search.proofs.Search.count_windows.Given as goal

abbrev pub invariant-loop-w : goal.invariant-loop-w
invariant-loop-w g l = Trying (g.R.Reader.automaton l.self.reversed.now) l.self.size l.text l.w-2 l.w l.k

abbrev pub decreases-loop-w : goal.decreases-loop-w
decreases-loop-w g l = length l.text - l.w
