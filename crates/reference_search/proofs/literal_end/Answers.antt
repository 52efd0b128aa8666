-- The goals of `literal_end` that want a law of this crate.
use Rattle.reference_search.proofs.CandidateLaws.{verbatim_amp, verbatim_last, verbatim_all}
use Rattle.reference_search.proofs.literal_end.Goals as goal

pub returns-then-e-last : goal.returns-then-e-last
returns-then-e-last c = search verbatim_amp

pub returns-then-text-last-eq38 : goal.returns-then-text-last-eq38
returns-then-text-last-eq38 c = search verbatim_last

pub returns : goal.returns
returns c = search verbatim_all
