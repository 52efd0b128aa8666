-- The goals of `load` that want a law of this crate.
use Rattle.plan_part.proofs.Fields.{loading, byte-place, load_turn, loaded}
use Rattle.plan_part.proofs.load.Goals as goal

pub loop-j-init : goal.loop-j-init
loop-j-init c = search loading

pub loaded_byte-requires : goal.loaded_byte-requires
loaded_byte-requires c = search byte-place

pub loop-j-preserved : goal.loop-j-preserved
loop-j-preserved c = search load_turn

pub returns : goal.returns
returns c = search loaded
