-- The goals of `run` that want a law of this crate.
use Rattle.window_search.proofs.Searches.{rest-fits, finished}
use borrow.Author.Rules.{rules}
use Rattle.window_search.proofs.Search.run.Goals as goal

pub write_rest-k-requires : goal.write_rest-k-requires
write_rest-k-requires g c = search (rules, rest-fits)

pub returns : goal.returns
returns g c = search finished
