-- The goals of `begin` that want a law of this crate.
use Rattle.rule_part.proofs.RuleFields.{state-fits, begin_is}
use Rattle.rule_part.proofs.begin.Goals as goal

pub put_words-requires-3 : goal.put_words-requires-3
put_words-requires-3 c = search state-fits

pub returns : goal.returns
returns c = search begin_is
