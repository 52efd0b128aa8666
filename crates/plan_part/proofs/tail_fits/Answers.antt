-- The goals of `tail_fits` that want a law of this crate.
use native.Mathlib.Omega.{arith}
use lib.ListN.{length-take}
use Rattle.plan_part.proofs.Checks.{tail_none, tail_incomplete, tail_other}
use Rattle.plan_part.proofs.tail_fits.Goals as goal

pub returns-then-n-eq0 : goal.returns-then-n-eq0
returns-then-n-eq0 c = search tail_none

pub slice_bounds-read_reference-end : goal.slice_bounds-read_reference-end
slice_bounds-read_reference-end c = simp length-take (omega arith)

pub returns-in-Incomplete : goal.returns-in-Incomplete
returns-in-Incomplete c = search tail_incomplete

pub returns-in_default : goal.returns-in_default
returns-in_default c = search tail_other
