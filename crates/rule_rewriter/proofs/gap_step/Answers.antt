-- The goals of `gap_step` that want a law of this crate.
use Rattle.rule_rewriter.proofs.StepLaws.{gap-dots, gap-stays}
use Rattle.rule_rewriter.proofs.gap_step.Goals as goal

pub returns-then-a-b : goal.returns-then-a-b
returns-then-a-b c = search gap-dots

pub returns : goal.returns
returns c = search gap-stays
