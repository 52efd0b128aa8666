-- The goals of `masks_of` that want a law of this crate.
use Rattle.text_search.proofs.Parts.{both-masks}
use Rattle.text_search.proofs.masks_of.Goals as goal

pub returns : goal.returns
returns c = search both-masks
