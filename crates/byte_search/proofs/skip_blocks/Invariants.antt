-- What the loop of `skip_blocks` keeps, and what falls.
use Rattle.std.proofs.Common.{◌-◌}
use Rattle.byte_search.specs.BlockTests.{NoneFound}
use Rattle.byte_search.proofs.skip_blocks.Given as goal

abbrev pub invariant-loop-i : goal.invariant-loop-i
invariant-loop-i g l = NoneFound (goal.F-post g l.test) l.i-2 l.end l.i

abbrev pub decreases-loop-i : goal.decreases-loop-i
decreases-loop-i g l = l.end - l.i
