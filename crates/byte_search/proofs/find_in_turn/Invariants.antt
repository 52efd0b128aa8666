-- What the loop of `find_in_turn` keeps.
use Rattle.byte_search.specs.BlockTests.{NoneFound}
use Rattle.byte_search.proofs.find_in_turn.Given as goal

abbrev pub invariant-loop-j : goal.invariant-loop-j
invariant-loop-j g l = NoneFound (goal.F-post g l.test) l.i l.end l.j
