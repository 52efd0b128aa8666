-- The goals of `step_text` that want a law of this crate.
use Rattle.wide_scan.proofs.Ways.{text-fits, stepped-rule}
use borrow.Author.Rules.{rules}
use Rattle.wide_scan.proofs.step_text.Goals as goal

pub step_by-requires : goal.step_by-requires
step_by-requires c = search (rules, text-fits)

pub returns : goal.returns
returns c = search stepped-rule
