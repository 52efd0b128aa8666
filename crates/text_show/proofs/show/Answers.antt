-- The goals of `show` that want a law of this crate.
use Rattle.text_show.proofs.Shows.{shows-part}
use Rattle.text_show.proofs.show.Goals as goal

pub returns : goal.returns
returns c = search shows-part
