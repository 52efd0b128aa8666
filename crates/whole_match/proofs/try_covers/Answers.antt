-- The goals of `try_covers` that want a law of this crate.
use Rattle.whole_match.proofs.CoverLaws.{cover_long, cover_judged}
use Rattle.whole_match.proofs.try_covers.Goals as goal

pub returns-then-name-gt-TEXT_LIMIT : goal.returns-then-name-gt-TEXT_LIMIT
returns-then-name-gt-TEXT_LIMIT c = search (cover_long, c.in_ok-p.ensures)

pub returns : goal.returns
returns c = search (cover_judged, c.in_ok-p.ensures)
