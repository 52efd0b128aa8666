-- The goals of `reads` that want a law of this crate.
use Rattle.window_reader.proofs.Numbers.{none_left, some_left}
use Rattle.whole_match.proofs.Readings.{reading-begun, reading-over, reading_died, reading-turn}
use Rattle.whole_match.proofs.reads.Goals as goal

pub loop-b-init : goal.loop-b-init
loop-b-init g c = search reading-begun

pub returns-then-is_empty : goal.returns-then-is_empty
returns-then-is_empty g c = search (reading_died, none_left)

pub loop-b-preserved : goal.loop-b-preserved
loop-b-preserved g c = search (reading-turn, some_left)

pub returns : goal.returns
returns g c = search reading-over
