-- The goals of `step_words` that want a law of this crate.
use Rattle.wide_scan.proofs.Steps.{stepped-words}
use Rattle.wide_scan.proofs.step_words.Goals as goal

pub returns : goal.returns
returns c = search stepped-words
