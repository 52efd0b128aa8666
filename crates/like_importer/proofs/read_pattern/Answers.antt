-- The goals of `read_pattern` that want a law of this crate.
use Rattle.like_importer.proofs.MeasureLaws.{measure_begun, measure_over, measure_addable, measure_bad, measure_less, measure_turn}
use Rattle.like_importer.proofs.read_pattern.Goals as goal

pub loop-at-init : goal.loop-at-init
loop-at-init c = search measure_begun

pub returns-in_default : goal.returns-in_default
returns-in_default c = search measure_bad

pub add_item-m-requires : goal.add_item-m-requires
add_item-m-requires c = search measure_addable

pub loop-at-smaller : goal.loop-at-smaller
loop-at-smaller c = search measure_less

pub loop-at-preserved : goal.loop-at-preserved
loop-at-preserved c = search measure_turn

pub returns : goal.returns
returns c = search measure_over
