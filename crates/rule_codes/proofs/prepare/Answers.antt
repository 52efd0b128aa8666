-- The goals of `prepare` that want a law of this crate.
use Rattle.rule_codes.proofs.AloneLaws.{judgeable, codes_wrong_lem, codes_alone_lem, all-accepted}
use Rattle.rule_codes.proofs.prepare.Goals as goal

pub returns-then-wrong : goal.returns-then-wrong
returns-then-wrong c = search (codes_wrong_lem, c.in_ok-p.ensures)

pub alone-requires : goal.alone-requires
alone-requires c = search (judgeable, c.in_ok-p.ensures)

pub returns-then-alone : goal.returns-then-alone
returns-then-alone c = search (codes_alone_lem, c.in_ok-p.ensures)

pub returns : goal.returns
returns c = search (all-accepted, c.in_ok-p.ensures)
