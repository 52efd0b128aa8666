-- The goals of `cut_after` that want a law of this crate.
use Rattle.rule_rewriter.proofs.StepLaws.{cut_stays, cut_kept, cut_dots}
use Rattle.rule_rewriter.proofs.cut_after.Goals as goal

pub returns-in_default : goal.returns-in_default
returns-in_default c = search cut_stays

pub returns-then-a-eq0 : goal.returns-then-a-eq0
returns-then-a-eq0 c = search cut_kept

pub returns : goal.returns
returns c = search cut_dots
