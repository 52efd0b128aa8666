-- The goals of `skip_windows_by_last` that want a law of this crate.
use Rattle.window_search.proofs.Searches.{skip_begun, skip_unknown}
use Rattle.window_search.proofs.Search.skip_windows_by_last.Goals as goal

pub loop-w-init : goal.loop-w-init
loop-w-init g c = search skip_begun

pub loop-w-preserved : goal.loop-w-preserved
loop-w-preserved g c = search skip_unknown
