-- The goals of `covers_low` that want a law of this crate.
use Rattle.whole_match.proofs.CoverLaws.{cover_low-fillable, cover_low-fits, low-covers}
use Rattle.whole_match.proofs.covers_low.Goals as goal

pub fill_plane-requires : goal.fill_plane-requires
fill_plane-requires c = search cover_low-fillable

pub new-reader-requires : goal.new-reader-requires
new-reader-requires c = search cover_low-fits

pub returns : goal.returns
returns c = search low-covers
