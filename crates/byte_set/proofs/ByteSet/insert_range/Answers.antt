-- The goals of `insert_range` that want a law of this crate.
use Rattle.byte_set.proofs.SetSteps.{adding, add_turn, add_over}
use Rattle.byte_set.proofs.ByteSet.insert_range.Goals as goal

pub loop-c-init : goal.loop-c-init
loop-c-init c = search adding

pub loop-c-preserved : goal.loop-c-preserved
loop-c-preserved c = search add_turn

pub returns-2 : goal.returns-2
returns-2 c = search add_over
