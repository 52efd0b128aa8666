-- The goals of `loop_once` that want a law of this crate.
use Rattle.shift_and_loop.proofs.LoopLaws.{one_ended, one-passed}
use Rattle.shift_and_loop.proofs.loop_once.Goals as goal

pub returns-then-is_end : goal.returns-then-is_end
returns-then-is_end c = search one_ended

pub returns : goal.returns
returns c = search one-passed
