-- The goals of `try_window` that want a law of this crate.
use Rattle.window_search.proofs.Tries.{hit, missed}
use Rattle.window_search.proofs.Search.try_window.Goals as goal

pub returns-then-seen : goal.returns-then-seen
returns-then-seen g c = search hit

pub returns : goal.returns
returns g c = search missed
