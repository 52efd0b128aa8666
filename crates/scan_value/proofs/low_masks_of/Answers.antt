-- The goals of `low_masks_of` that want a law of this crate.
use Rattle.scan_value.proofs.Checks.{low_masks_read}
use Rattle.scan_value.proofs.low_masks_of.Goals as goal

pub returns : goal.returns
returns c = search low_masks_read
