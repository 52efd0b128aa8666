-- The goals of `pair_evenly` that want a law of this crate.
use Rattle.entry_list.proofs.Spread.{before-next, even-turn, even-over}
use Rattle.entry_list.proofs.pair_evenly.Goals as goal

pub loop-j-preserved : goal.loop-j-preserved
loop-j-preserved c = search (even-turn, before-next)

pub returns : goal.returns
returns c = search even-over
