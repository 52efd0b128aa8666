-- The goals of `fits_one_by` that want a law of this crate.
use Rattle.wide_prefilter.proofs.Ways.{fits-clear, fits-even}
use Rattle.wide_prefilter.proofs.fits_one_by.Goals as goal

pub returns-then-q-lt9223372036854775808 : goal.returns-then-q-lt9223372036854775808
returns-then-q-lt9223372036854775808 c = search fits-clear

pub returns-then-is_low : goal.returns-then-is_low
returns-then-is_low c = search fits-even
