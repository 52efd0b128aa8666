-- The goal of `skip_marks` that wants a law of this crate.
use Rattle.entry_list.proofs.Walks.{skip_turn}
use Rattle.entry_list.proofs.skip_marks.Goals as goal

pub loop-i-preserved : goal.loop-i-preserved
loop-i-preserved c = search skip_turn
