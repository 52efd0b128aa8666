-- What the loop of `skip_windows_by_last` keeps, and what falls.
use Prim.Native.Nat.{◌-◌}
use lib.ListN.{length}
use Rattle.window_search.specs.Searching.{SkippedIs}
use Rattle.window_search.proofs.Search.skip_windows_by_last.Given as goal

abbrev pub invariant-loop-w : goal.invariant-loop-w
invariant-loop-w g l = SkippedIs (g.R.Reader.automaton l.self.reversed.now) l.self.size l.text l.w-2 l.w l.k

abbrev pub decreases-loop-w : goal.decreases-loop-w
decreases-loop-w g l = length l.text - l.w
