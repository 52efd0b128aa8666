-- The goals of `state_of` that want a law of this crate.
use Rattle.scan_value.proofs.Checks.{state_read}
use Rattle.scan_value.proofs.state_of.Goals as goal

pub returns : goal.returns
returns c = search state_read
