-- The goals of `whole` that want a law of this crate.
use Rattle.text_search.proofs.Parts.{whole_too_much, whole_too_short, whole_fits}
use Rattle.text_search.proofs.whole.Goals as goal

pub returns-then-text-gt-TEXT_LIMIT : goal.returns-then-text-gt-TEXT_LIMIT
returns-then-text-gt-TEXT_LIMIT c = search whole_too_much

pub returns-then-list-text : goal.returns-then-list-text
returns-then-list-text c = search whole_too_short

pub returns : goal.returns
returns c = search whole_fits
