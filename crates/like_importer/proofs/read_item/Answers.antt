-- The goals of `read_item` that want a law of this crate.
use Rattle.like_importer.proofs.ItemLaws.{read_any, read_one, read_plain}
use Rattle.like_importer.proofs.read_item.Goals as goal

pub returns-then-c-eq37 : goal.returns-then-c-eq37
returns-then-c-eq37 c = search read_any

pub returns-then-c-eq95 : goal.returns-then-c-eq95
returns-then-c-eq95 c = search read_one

pub returns : goal.returns
returns c = search read_plain
