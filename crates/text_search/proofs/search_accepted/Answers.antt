-- The goals of `search_accepted` that want a law of this crate.
use Rattle.text_search.proofs.Parts.{work_done}
use Rattle.text_search.proofs.search_accepted.Goals as goal

pub returns : goal.returns
returns c = search work_done
