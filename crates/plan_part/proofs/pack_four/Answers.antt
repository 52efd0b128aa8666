-- The goals of `pack_four` that want a law of this crate.
use Rattle.plan_part.proofs.Fields.{packed_four}
use Rattle.plan_part.proofs.pack_four.Goals as goal

pub returns : goal.returns
returns c = search packed_four
