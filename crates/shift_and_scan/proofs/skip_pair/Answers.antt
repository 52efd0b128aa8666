-- The goals of `skip_pair` that want a law of this crate.
use Rattle.shift_and_loop.proofs.LoopLaws.{pass_none}
use Rattle.shift_and_scan.proofs.SkipLaws.{to-pair}
use Rattle.shift_and_scan.proofs.skip_pair.Goals as goal

pub returns-then-text-i : goal.returns-then-text-i
returns-then-text-i c = search pass_none

pub returns : goal.returns
returns c = search to-pair
