-- The goals of `raw_of` that want a law of this crate.
use Rattle.scan_value.proofs.Checks.{raw_read}
use Rattle.scan_value.proofs.raw_of.Goals as goal

pub returns : goal.returns
returns c = search raw_read
