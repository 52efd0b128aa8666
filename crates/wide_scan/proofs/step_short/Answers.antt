-- The goals of `step_short` that want a law of this crate.
use Rattle.wide_scan.proofs.Ways.{steps-long, steps-top, stepped-rule}
use borrow.Author.Rules.{rules}
use Rattle.wide_scan.proofs.step_short.Goals as goal

pub step_words-requires : goal.step_words-requires
step_words-requires c = search (rules, steps-long, steps-top)

pub returns : goal.returns
returns c = search stepped-rule
