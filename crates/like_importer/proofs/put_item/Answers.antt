-- The goals of `put_item` that want a law of this crate.
use Rattle.like_importer.proofs.ItemLaws.{put_first, put_second, put_two, put_one}
use Rattle.like_importer.proofs.put_item.Goals as goal

pub bounds-out-at : goal.bounds-out-at
bounds-out-at c = search put_first

pub bounds-out-end : goal.bounds-out-end
bounds-out-end c = search put_second

pub returns : goal.returns
returns c = search put_two

pub returns-in_default : goal.returns-in_default
returns-in_default c = search put_one
