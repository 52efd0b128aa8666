-- The goals of `step_of` that want a law of this crate.
use Rattle.rule_rewriter.proofs.StepLaws.{step_gap}
use Rattle.rule_rewriter.proofs.step_of.Goals as goal

pub returns-in-Gap : goal.returns-in-Gap
returns-in-Gap c = search step_gap
