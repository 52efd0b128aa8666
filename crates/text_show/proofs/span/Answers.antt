-- The goals of `span` that want a law of this crate.
use Rattle.std.proofs.lemmas.Result.{MatchResult-at_ok, MatchResult-at_err}
use Rattle.text_show.proofs.Shows.{shown-refused}
use Rattle.text_show.proofs.span.Goals as goal

pub span_prepared-requires : goal.span_prepared-requires
span_prepared-requires c = MatchResult-at_ok _ _ _ c.in-Ok.is c.prepare.ensures

pub returns-in-Err : goal.returns-in-Err
returns-in-Err c = shown-refused _ _ _ _ _ (MatchResult-at_err _ _ _ c.in-Err.is c.prepare.ensures)
