-- The goals of `write` that want a law of this crate.
use Rattle.like_importer.proofs.ImportLaws.{write_begun, write_over, write_never, write_less, write_room, write_turn}
use Rattle.like_importer.proofs.write.Goals as goal

pub loop-at-init : goal.loop-at-init
loop-at-init c = search write_begun

pub returns-in_default : goal.returns-in_default
returns-in_default c = search write_never

pub put_item-end-requires : goal.put_item-end-requires
put_item-end-requires c = search write_room

pub loop-at-smaller : goal.loop-at-smaller
loop-at-smaller c = search write_less

pub loop-at-preserved : goal.loop-at-preserved
loop-at-preserved c = search write_turn

pub returns : goal.returns
returns c = search write_over
