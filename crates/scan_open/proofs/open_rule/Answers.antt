-- The goals of `open_rule` that want a law of this crate.
use native.Mathlib.Omega.{arith}
use lib.ListN.{length-take}
use Rattle.scan_open.proofs.Opens.{table-fillable, filled_long, rule-opened}
use Rattle.scan_open.proofs.open_rule.Goals as goal

pub slice_bounds-fill-end-2 : goal.slice_bounds-fill-end-2
slice_bounds-fill-end-2 c = simp length-take (omega arith)

pub fill-requires : goal.fill-requires
fill-requires c = search table-fillable

pub begin-requires : goal.begin-requires
begin-requires c = search filled_long

pub returns : goal.returns
returns c = search rule-opened
