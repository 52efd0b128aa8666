-- The goals of `span_wide` that want a law of this crate.
use Rattle.code_list.proofs.Bytes.{bytes_known}
use borrow.Author.Rules.{rules}
use Rattle.text_show.proofs.Shows.{shown-fillable, shown-fits, part-shown}
use Rattle.text_show.proofs.span_wide.Goals as goal

pub fill-requires : goal.fill-requires
fill-requires c = search shown-fillable

pub new-reader-requires : goal.new-reader-requires
new-reader-requires c = search (rules, shown-fits)

pub returns : goal.returns
returns c = search (part-shown, bytes_known)
