-- The goals of `read_reference` that want a law of this crate.
use native.Mathlib.Omega.{arith}
use lib.ListN.{length-take}
use Rattle.reference_reader.proofs.Readings.{read_front}
use Rattle.reference_reader.proofs.read_reference.Goals as goal

pub slice_bounds-read_short-end : goal.slice_bounds-read_short-end
slice_bounds-read_short-end c = simp length-take (omega arith)

pub read_short-requires : goal.read_short-requires
read_short-requires c = simp length-take (omega arith)

pub returns-then-s-gt-FORM_LIMIT : goal.returns-then-s-gt-FORM_LIMIT
returns-then-s-gt-FORM_LIMIT c = search read_front
