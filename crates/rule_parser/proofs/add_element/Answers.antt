-- The goals of `add_element` that want a law of this crate.
use Rattle.rule_parser.proofs.ElementMasks.{gained-is}
use Rattle.rule_parser.proofs.add_element.Goals as goal

pub returns : goal.returns
returns c = search gained-is
