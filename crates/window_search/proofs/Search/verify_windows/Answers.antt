-- The goals of `verify_windows` that want a law of this crate.
use Rattle.std.proofs.Common.{arith, refl}
use Rattle.window_search.proofs.Searches.{begun, windows_skipped, start-short, start_less, started, empty-short, empty_less, passed, has-entry, halted}
use Rattle.window_search.proofs.Search.verify_windows.Goals as goal

pub loop-w-init : goal.loop-w-init
loop-w-init g c = search begun

pub loop-w-preserved-then-s-ne0 : goal.loop-w-preserved-then-s-ne0
loop-w-preserved-then-s-ne0 g c = search windows_skipped

pub bounds-starts-count : goal.bounds-starts-count
bounds-starts-count g c = search has-entry

pub overflow_add-w-in-Start : goal.overflow_add-w-in-Start
overflow_add-w-in-Start g c = omega (arith, start-short c.in-Start.ensures refl)

pub loop-w-smaller-in-Start : goal.loop-w-smaller-in-Start
loop-w-smaller-in-Start g c = search start_less

pub loop-w-preserved-in-Start : goal.loop-w-preserved-in-Start
loop-w-preserved-in-Start g c = search started

pub overflow_add-w-in-Empty : goal.overflow_add-w-in-Empty
overflow_add-w-in-Empty g c = omega (arith, empty-short c.in-Empty.ensures refl)

pub loop-w-smaller : goal.loop-w-smaller
loop-w-smaller g c = search empty_less

pub loop-w-preserved : goal.loop-w-preserved
loop-w-preserved g c = search passed

pub returns-in-Spent : goal.returns-in-Spent
returns-in-Spent g c = search halted

pub returns : goal.returns
returns g c = search halted
