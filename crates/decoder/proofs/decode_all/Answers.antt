-- The goals of `decode_all` that want a law of this crate.
use Rattle.decoder.proofs.DecodeLaws.{decodes-all}
use Rattle.decoder.proofs.decode_all.Goals as goal

pub returns : goal.returns
returns c = search decodes-all
