-- What the loop of `any_in_block` keeps.
use Rattle.std.proofs.Common.{◌≡◌, ◌+◌, false}
use Rattle.byte_search.specs.BlockTests.{NoneFound}
use Rattle.byte_search.proofs.any_in_block.Given as goal

abbrev pub invariant-loop-j : goal.invariant-loop-j
invariant-loop-j g l = l.any ≡ false → NoneFound (goal.F-post g l.test) l.i (l.i + l.j) (l.i + l.j)
