-- The goals of `escaped_item` that want a law of this crate.
use Rattle.like_importer.proofs.ItemLaws.{escaped_last, escaped_percent, escaped_line, escaped_slash, escaped_other}
use Rattle.like_importer.proofs.escaped_item.Goals as goal

pub returns-then-pattern-next : goal.returns-then-pattern-next
returns-then-pattern-next c = search escaped_last

pub returns-then-c-eq37 : goal.returns-then-c-eq37
returns-then-c-eq37 c = search escaped_percent

pub returns-then-c-eq95 : goal.returns-then-c-eq95
returns-then-c-eq95 c = search escaped_line

pub returns-then-c-eq92 : goal.returns-then-c-eq92
returns-then-c-eq92 c = search escaped_slash

pub returns : goal.returns
returns c = search escaped_other
