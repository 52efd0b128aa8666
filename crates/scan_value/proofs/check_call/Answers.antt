-- The goals of `check_call` that want a law of this crate.
use native.Mathlib.Omega.{arith}
use Rattle.scan_value.proofs.Checks.{may_ask, refused_by_plan, refused-impossible}
use Rattle.scan_value.proofs.check_call.Goals as goal

pub slice_bounds-check_call-count : goal.slice_bounds-check_call-count
slice_bounds-check_call-count c = let p = c.possible.ensures.says c.if-possible.true in omega (arith, p.long)

pub slice_bounds-check_call-start : goal.slice_bounds-check_call-start
slice_bounds-check_call-start c = let p = c.possible.ensures.says c.if-possible.true in omega (arith, p.long)

pub check_call-requires : goal.check_call-requires
check_call-requires c = search may_ask

pub returns-then-possible : goal.returns-then-possible
returns-then-possible c = search refused_by_plan

pub returns : goal.returns
returns c = search refused-impossible
