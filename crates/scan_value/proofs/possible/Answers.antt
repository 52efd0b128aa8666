-- The goals of `possible` that want a law of this crate.
use native.Mathlib.Omega.{arith}
use lib.ListN.{length-take}
use Rattle.scan_value.proofs.Checks.{length_wrong, lent-long, rule-long, by_plan, rule_wrong}
use Rattle.scan_value.proofs.possible.Goals as goal

pub returns-then-scan-ne-LENGTH : goal.returns-then-scan-ne-LENGTH
returns-then-scan-ne-LENGTH c = search length_wrong

pub slice_bounds-possible-end : goal.slice_bounds-possible-end
slice_bounds-possible-end c = simp length-take (omega arith)

pub possible-requires : goal.possible-requires
possible-requires c = search rule-long

pub possible-requires-then-possible : goal.possible-requires-then-possible
possible-requires-then-possible c = search lent-long

pub returns-then-possible : goal.returns-then-possible
returns-then-possible c = search by_plan

pub returns : goal.returns
returns c = search rule_wrong
