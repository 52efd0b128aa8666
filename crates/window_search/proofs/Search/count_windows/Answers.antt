-- The goals of `count_windows` that want a law of this crate.
use Rattle.window_search.proofs.Searches.{try_begun, try_quick, try_turn, try_over}
use Rattle.window_search.proofs.Search.count_windows.Goals as goal

pub loop-w-init : goal.loop-w-init
loop-w-init g c = search try_begun

pub loop-w-preserved-then-last_byte_absent : goal.loop-w-preserved-then-last_byte_absent
loop-w-preserved-then-last_byte_absent g c = search try_quick

pub loop-w-preserved : goal.loop-w-preserved
loop-w-preserved g c = search try_turn

pub returns : goal.returns
returns g c = search try_over
