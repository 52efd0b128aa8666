-- The goals of `try_rewrite` that want a law of this crate.
use Rattle.rule_rewriter.proofs.RewriteLaws.{too_short_lem}
use Rattle.rule_rewriter.proofs.try_rewrite.Goals as goal

pub returns-then-out-lt-RULE_LIMIT : goal.returns-then-out-lt-RULE_LIMIT
returns-then-out-lt-RULE_LIMIT c = search too_short_lem
