-- The goals of `search_found` that want a law of this crate.
use Rattle.text_search.proofs.Parts.{ready-low}
use Rattle.text_search.proofs.search_found.Goals as goal

pub search_low-requires : goal.search_low-requires
search_low-requires c = search ready-low
