-- The goals of `write_back` that want a law of this crate.
use Rattle.window_reader.proofs.BackLaws.{write_begun, more-place, more_within, above, inside, more_less, wrote, write_passed, write_over}
use Rattle.window_reader.proofs.write_back.Goals as goal

pub loop-p-init : goal.loop-p-init
loop-p-init g c = search write_begun

pub overflow_sub-j : goal.overflow_sub-j
overflow_sub-j g c = search more-place

pub bounds-text-j : goal.bounds-text-j
bounds-text-j g c = search more_within

pub overflow_sub-p : goal.overflow_sub-p
overflow_sub-p g c = search above

pub bounds-starts-p : goal.bounds-starts-p
bounds-starts-p g c = search inside

pub loop-p-smaller-then-accepts : goal.loop-p-smaller-then-accepts
loop-p-smaller-then-accepts g c = search more_less

pub loop-p-preserved-then-accepts : goal.loop-p-preserved-then-accepts
loop-p-preserved-then-accepts g c = search wrote

pub loop-p-smaller : goal.loop-p-smaller
loop-p-smaller g c = search more_less

pub loop-p-preserved : goal.loop-p-preserved
loop-p-preserved g c = search write_passed

pub returns : goal.returns
returns g c = search write_over
