-- The goals of `pair_unevenly` that want a law of this crate.
use Rattle.entry_list.proofs.Spread.{before-next}
use Rattle.entry_list.proofs.Walks.{walk_turn, walk_over}
use Rattle.entry_list.proofs.pair_unevenly.Goals as goal

pub loop-j-preserved : goal.loop-j-preserved
loop-j-preserved c = search (walk_turn, before-next)

pub returns : goal.returns
returns c = search walk_over
