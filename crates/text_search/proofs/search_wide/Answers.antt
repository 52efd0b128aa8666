-- The goals of `search_wide` that want a law of this crate.
use Rattle.text_search.proofs.Parts.{fillable, codes_accepted, few-positions, search-fits, size-some, size-small, on-fits, back-fits, wide-found}
use borrow.Author.Rules.{rules}
use Rattle.text_search.proofs.search_wide.Goals as goal

pub masks_of-masks-requires : goal.masks_of-masks-requires
masks_of-masks-requires c = search few-positions

pub fill-requires : goal.fill-requires
fill-requires c = search (fillable, codes_accepted)

pub fill-requires-2 : goal.fill-requires-2
fill-requires-2 c = search (fillable, codes_accepted)

pub new-on-requires : goal.new-on-requires
new-on-requires c = search on-fits

pub new-back-requires : goal.new-back-requires
new-back-requires c = search back-fits

pub search_tables-requires : goal.search_tables-requires
search_tables-requires c = search (rules, size-some, size-small, search-fits)

pub returns : goal.returns
returns c = wide-found _ _ _ _ _ _ _ c.requires _ c.masks_of-masks.ensures c.fill.ensures c.fill-2.ensures c.new-on.ensures c.new-back.ensures _ _ _ _ c.search_tables.ensures
