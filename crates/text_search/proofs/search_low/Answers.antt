-- The goals of `search_low` that want a law of this crate.
use Rattle.text_search.proofs.Parts.{low-fillable, low_codes_accepted, low-few, low-search-fits, low-size-some, low-size-small, low-on-reads, low-back-reads, low-found}
use borrow.Author.Rules.{rules}
use Rattle.text_search.proofs.search_low.Goals as goal

pub masks_of-masks-requires : goal.masks_of-masks-requires
masks_of-masks-requires c = search low-few

pub fill_plane-requires : goal.fill_plane-requires
fill_plane-requires c = search (low-fillable, low_codes_accepted)

pub fill_plane-requires-2 : goal.fill_plane-requires-2
fill_plane-requires-2 c = search (low-fillable, low_codes_accepted)

pub new-on-requires : goal.new-on-requires
new-on-requires c = search low-on-reads

pub new-back-requires : goal.new-back-requires
new-back-requires c = search low-back-reads

pub search_tables-requires : goal.search_tables-requires
search_tables-requires c = search (rules, low-size-some, low-size-small, low-search-fits)

pub returns : goal.returns
returns c =
    low-found _ _ _ _ _ _ _ c.requires _ c.masks_of-masks.ensures c.fill_plane.ensures c.fill_plane-2.ensures c.low_masks.ensures c.low_masks-2.ensures c.new-on.ensures c.new-back.ensures
    _ _ _ _ c.search_tables.ensures
