-- The goals of `add_item` that want a law of this crate.
use Rattle.like_importer.proofs.MeasureLaws.{add_fits, add_within, add_past}
use Rattle.like_importer.proofs.add_item.Goals as goal

pub overflow_add-length : goal.overflow_add-length
overflow_add-length c = search add_fits

pub returns-then-items : goal.returns-then-items
returns-then-items c = search add_within

pub returns : goal.returns
returns c = search add_past
