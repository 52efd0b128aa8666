-- The goals of `decoded_of` that want a law of this crate.
use Rattle.scan_value.proofs.Checks.{decoded_read}
use Rattle.scan_value.proofs.decoded_of.Goals as goal

pub returns : goal.returns
returns c = search decoded_read
