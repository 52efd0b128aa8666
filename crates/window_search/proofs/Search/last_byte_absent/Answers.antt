-- The goals of `last_byte_absent` that want a law of this crate.
use Rattle.window_search.proofs.Tries.{last_absent}
use Rattle.window_search.proofs.Search.last_byte_absent.Goals as goal

pub returns : goal.returns
returns g c = search last_absent
