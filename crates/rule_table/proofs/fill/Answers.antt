-- The goals of `fill` that want a law of this crate.
use Rattle.std.proofs.Common.{arith}
use Rattle.rule_table.proofs.FillLaws.{planes_begun, planes_turn, planes_over}
use Rattle.rule_table.proofs.fill.Goals as goal

pub loop-word-init : goal.loop-word-init
loop-word-init c = search planes_begun

pub loop-word-preserved : goal.loop-word-preserved
loop-word-preserved c = planes_turn _ _ _ _ _ _ c.loop-word.invariant c.loop-word-test.true _ c.fill_plane.ensures _ (omega arith)

pub returns : goal.returns
returns c = search planes_over
