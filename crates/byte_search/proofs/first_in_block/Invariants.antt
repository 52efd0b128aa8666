-- What the loop of `first_in_block` keeps: none of the lanes tried before the nearest one passes.
use Rattle.std.proofs.Common.{ℕ, ◌+◌, ◌<◌, ◌≤◌, false}
use Rattle.byte_search.proofs.first_in_block.Given as goal

abbrev pub invariant-loop-j : goal.invariant-loop-j
invariant-loop-j g l = (l.first ≤ g.row.N) × ((k : ℕ) → l.i ≤ k → k < l.i + l.j → k < l.i + l.first → goal.F-post g l.test k false)
