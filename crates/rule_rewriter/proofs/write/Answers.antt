-- The goals of `write` that want a law of this crate.
use borrow.Author.Rules.{rules}
use Rattle.rule_rewriter.proofs.RewriteLaws.{last-room, all-written}
use Rattle.rule_rewriter.proofs.write.Goals as goal

pub fill-requires : goal.fill-requires
fill-requires c = search (last-room, rules)

pub returns : goal.returns
returns c = search all-written
