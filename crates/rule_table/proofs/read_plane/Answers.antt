-- The goals of `read_plane` that want a law of this crate.
use native.Mathlib.Omega.{arith}
use Rattle.rule_table.proofs.GainLaws.{cleared}
use Rattle.rule_table.proofs.FillLaws.{fill_begun, fill_never, fill_over, fill_ahead, fill_room, fill_turn}
use Rattle.rule_table.proofs.read_plane.Goals as goal

pub loop-at-init : goal.loop-at-init
loop-at-init c =
    fill_begun _ _ _ _ _ _ _ c.requires (cleared _ _ c.requires.long (c.fill.ensures.after (λ y e. e))) _ c.folds-f.ensures

pub returns-in_default : goal.returns-in_default
returns-in_default c = fill_never _ _ _ _ _ _ _ _ _ c.loop-at.invariant c.loop-at-test.true _ c.in_default.ensures

pub place-used-requires : goal.place-used-requires
place-used-requires c = record {
  table_len = c.loop-at.invariant.long;
  slots_fit = fill_room _ _ _ _ _ _ _ _ _ c.loop-at.invariant c.loop-at-test.true _ _ c.in-Ok.ensures;
}

pub overflow_add-used : goal.overflow_add-used
overflow_add-used c =
    let m = fill_room _ _ _ _ _ _ _ _ _ c.loop-at.invariant c.loop-at-test.true _ _ c.in-Ok.ensures in
    omega (arith, m.room, m.few, c.place-used.ensures.size)

pub loop-at-smaller : goal.loop-at-smaller
loop-at-smaller c =
    let m = fill_ahead _ _ _ _ _ _ _ _ _ c.loop-at.invariant c.loop-at-test.true _ _ c.in-Ok.ensures in
    omega arith

pub loop-at-preserved : goal.loop-at-preserved
loop-at-preserved c = fill_turn _ _ _ _ _ _ _ _ _ c.loop-at.invariant c.loop-at-test.true _ _ c.in-Ok.ensures _ _ c.place-used.ensures

pub returns : goal.returns
returns c = search fill_over
