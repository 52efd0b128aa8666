-- The goals of `span_low` that want a law of this crate.
use Rattle.code_list.proofs.Bytes.{bytes_known}
use borrow.Author.Rules.{rules}
use Rattle.text_show.proofs.Shows.{shown-low-fillable, shown-low-fits, part-low-shown}
use Rattle.text_show.proofs.span_low.Goals as goal

pub fill_plane-requires : goal.fill_plane-requires
fill_plane-requires c = search shown-low-fillable

pub new-reader-requires : goal.new-reader-requires
new-reader-requires c = search (rules, shown-low-fits)

pub returns : goal.returns
returns c = search (part-low-shown, bytes_known)
