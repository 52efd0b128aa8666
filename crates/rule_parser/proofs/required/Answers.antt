-- The goals of `required` that want a law of this crate.
use Rattle.rule_parser.proofs.PrepareLaws.{required_is}
use Rattle.rule_parser.proofs.required.Goals as goal

pub returns : goal.returns
returns c = search required_is
