-- The goals of `plain_item` that want a law of this crate.
use Rattle.like_importer.proofs.ItemLaws.{plain-mark, plain_other}
use Rattle.like_importer.proofs.plain_item.Goals as goal

pub returns-then-is_mark : goal.returns-then-is_mark
returns-then-is_mark c = search plain-mark

pub returns : goal.returns
returns c = search plain_other
