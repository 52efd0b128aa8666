-- The goals of `code_set` that want a law of this crate.
use Rattle.rule_codes.proofs.CodeSets.{add_turn, add_over}
use Rattle.rule_codes.proofs.code_set.Goals as goal

pub loop-code-preserved : goal.loop-code-preserved
loop-code-preserved c = search add_turn

pub returns : goal.returns
returns c = search add_over
