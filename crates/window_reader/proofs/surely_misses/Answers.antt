-- The goals of `surely_misses` that want a law of this crate.
use Rattle.window_reader.proofs.WindowLaws.{quiet_pair, quiet_long, last-byte-state}
use Rattle.window_reader.proofs.surely_misses.Goals as goal

pub returns-then-i-eq0 : goal.returns-then-i-eq0
returns-then-i-eq0 g c = search (quiet_pair, last-byte-state)

pub returns : goal.returns
returns g c = search (quiet_long, last-byte-state)
