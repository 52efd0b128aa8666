-- The goals of `span_prepared` that want a law of this crate.
use Rattle.text_show.proofs.Shows.{shown-long, shown-past, shown-ready, shown-done}
use Rattle.text_show.proofs.span_prepared.Goals as goal

pub returns-then-len-gt-TEXT_LIMIT : goal.returns-then-len-gt-TEXT_LIMIT
returns-then-len-gt-TEXT_LIMIT c = search shown-long

pub returns-then-start-len : goal.returns-then-start-len
returns-then-start-len c = search shown-past

pub span_accepted-requires : goal.span_accepted-requires
span_accepted-requires c = search shown-ready

pub returns : goal.returns
returns c = search shown-done
