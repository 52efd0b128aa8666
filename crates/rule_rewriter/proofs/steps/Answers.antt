-- The goals of `steps` that want a law of this crate.
use Rattle.rule_rewriter.proofs.RewriteLaws.{steps_are}
use Rattle.rule_rewriter.proofs.steps.Goals as goal

pub returns : goal.returns
returns c = search steps_are
