-- The goals of `try_search` that want a law of this crate.
use Rattle.code_list.proofs.Bytes.{bytes_known}
use Rattle.text_search.proofs.Parts.{search-ready, search-done}
use Rattle.text_search.proofs.try_search.Goals as goal

pub search_accepted-requires : goal.search_accepted-requires
search_accepted-requires c = search (search-ready, c.in_ok-p.ensures, c.in_ok-whole.ensures, bytes_known)

pub returns : goal.returns
returns c = search (search-done, c.in_ok-p.ensures, c.in_ok-whole.ensures)
