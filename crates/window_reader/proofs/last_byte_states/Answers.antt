-- The goals of `last_byte_states` that want a law of this crate.
use Rattle.window_reader.proofs.WindowLaws.{firsts-begun, firsts-on, firsts-over}
use Rattle.window_reader.proofs.last_byte_states.Goals as goal

pub loop-c-init : goal.loop-c-init
loop-c-init g c = search firsts-begun

pub loop-c-preserved : goal.loop-c-preserved
loop-c-preserved g c = search firsts-on

pub returns : goal.returns
returns g c = search firsts-over
