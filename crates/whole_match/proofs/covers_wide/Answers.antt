-- The goals of `covers_wide` that want a law of this crate.
use Rattle.whole_match.proofs.CoverLaws.{cover_fillable, cover_fits, wide-covers}
use Rattle.whole_match.proofs.covers_wide.Goals as goal

pub fill-requires : goal.fill-requires
fill-requires c = search cover_fillable

pub new-reader-requires : goal.new-reader-requires
new-reader-requires c = search cover_fits

pub returns : goal.returns
returns c = search wide-covers
