-- The goals of `count_back` that want a law of this crate.
use Rattle.window_reader.proofs.BackLaws.{count-begun, counted, count-passed, count-over}
use Rattle.window_reader.proofs.count_back.Goals as goal

pub loop-j-init : goal.loop-j-init
loop-j-init g c = search count-begun

pub loop-j-preserved-then-accepts : goal.loop-j-preserved-then-accepts
loop-j-preserved-then-accepts g c = search counted

pub loop-j-preserved : goal.loop-j-preserved
loop-j-preserved g c = search count-passed

pub returns : goal.returns
returns g c = search count-over
