-- The goals of `open_accepted` that want a law of this crate.
use native.Mathlib.Omega.{arith}
use lib.ListN.{length-take}
use Rattle.scan_open.proofs.Opens.{rule_openable, plan-begins, plan-long, both-opened}
use borrow.Author.Rules.{rules}
use Rattle.scan_open.proofs.open_accepted.Goals as goal

pub slice_bounds-open_rule-end-2 : goal.slice_bounds-open_rule-end-2
slice_bounds-open_rule-end-2 c = simp length-take (omega arith)

pub open_rule-requires : goal.open_rule-requires
open_rule-requires c = search rule_openable

pub slice_bounds-put-count : goal.slice_bounds-put-count
slice_bounds-put-count c = search plan-begins

pub slice_bounds-put-start : goal.slice_bounds-put-start
slice_bounds-put-start c = search plan-begins

pub put-requires : goal.put-requires
put-requires c = search (plan-long, rules)

pub returns : goal.returns
returns c = search both-opened
