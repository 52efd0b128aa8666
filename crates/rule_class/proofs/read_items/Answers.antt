-- The goals of `read_items` that want a law of this crate.
use mathlib.Core.Path.{refl}
use Rattle.rule_class.proofs.Ends.{item-turn, items_closed}
use Rattle.rule_class.proofs.read_items.Goals as goal

pub loop-low-preserved : goal.loop-low-preserved
loop-low-preserved c = item-turn _ _ _ _ c.loop-low.invariant _ _ _ c.in_ok-low.ensures c.in-Range.is _ c.insert_range.ensures

pub returns-in-Close : goal.returns-in-Close
returns-in-Close c = items_closed _ _ _ _ c.loop-low.invariant _ c.in_ok-low.ensures c.in-Close.is _ refl
