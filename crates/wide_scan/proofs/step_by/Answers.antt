-- The goals of `step_by` that want a law of this crate.
use Rattle.wide_scan.proofs.Ways.{parts_fit}
use Rattle.wide_scan.proofs.step_by.Goals as goal

pub step_parts-requires : goal.step_parts-requires
step_parts-requires c = search parts_fit
