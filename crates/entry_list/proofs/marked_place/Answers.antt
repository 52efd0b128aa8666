-- The goals of `marked_place` that want a law of this crate.
use Rattle.entry_list.proofs.Walks.{place-alone, place-marked, place-fits}
use borrow.Author.Rules.{rules}
use Rattle.entry_list.proofs.marked_place.Goals as goal

pub returns-then-m-eq0 : goal.returns-then-m-eq0
returns-then-m-eq0 c = search place-alone

pub overflow_add-result : goal.overflow_add-result
overflow_add-result c = search (place-fits, rules)

pub returns : goal.returns
returns c = search place-marked
