-- The goals of `fill_plane` that want a law of this crate.
use Rattle.rule_table.proofs.GainLaws.{cleared}
use Rattle.rule_table.proofs.FillLaws.{plane_cleared}
use Rattle.rule_table.proofs.fill_plane.Goals as goal

pub returns-then-total-from : goal.returns-then-total-from
returns-then-total-from c = plane_cleared _ _ _ _ _ _ _ c.requires c.if-total-from.true (cleared _ _ c.requires.long (c.fill.ensures.after (λ y e. e)))
