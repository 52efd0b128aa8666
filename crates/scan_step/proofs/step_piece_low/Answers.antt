-- The goals of `step_piece_low` that want a law of this crate.
use Rattle.scan_step.proofs.Steps.{low-table-fits, low_sound, low-stepped}
use Rattle.scan_step.proofs.step_piece_low.Goals as goal

pub invariant_of-word : goal.invariant_of-word
invariant_of-word c = record { table_fits = search low-table-fits; prefilter_sound = search low_sound }

pub returns : goal.returns
returns c = search low-stepped
