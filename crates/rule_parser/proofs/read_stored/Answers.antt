-- The goals of `read_stored` that want a law of this crate.
use Rattle.rule_parser.proofs.PrepareLaws.{prepare_none, prepare_long, few-positions, prepare_bare, prepare_good}
use Rattle.rule_parser.proofs.read_stored.Goals as goal

pub returns-then-rule-eq0 : goal.returns-then-rule-eq0
returns-then-rule-eq0 c = search prepare_none

pub returns-then-rule-gt-RULE_LIMIT : goal.returns-then-rule-gt-RULE_LIMIT
returns-then-rule-gt-RULE_LIMIT c = search prepare_long

pub required-m-requires : goal.required-m-requires
required-m-requires c = search (few-positions, c.in_ok-read.ensures)

pub returns-then-m-eq0 : goal.returns-then-m-eq0
returns-then-m-eq0 c = search (prepare_bare, c.in_ok-read.ensures)

pub returns : goal.returns
returns c = search (prepare_good, c.in_ok-read.ensures)
