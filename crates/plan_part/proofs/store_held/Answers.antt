-- The goals of `store_held` that want a law of this crate.
use Rattle.plan_part.proofs.Fields.{storing, pack_fine, store_turn, stored}
use Rattle.plan_part.proofs.store_held.Goals as goal

pub loop-k-init : goal.loop-k-init
loop-k-init c = search storing

pub pack_eight-w-requires : goal.pack_eight-w-requires
pack_eight-w-requires c = search pack_fine

pub loop-k-preserved : goal.loop-k-preserved
loop-k-preserved c = search store_turn

pub returns : goal.returns
returns c = search stored
