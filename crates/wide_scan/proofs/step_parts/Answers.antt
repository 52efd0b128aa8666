-- The goals of `step_parts` that want a law of this crate.
use borrow.Author.Rules.{rules}
use Rattle.wide_scan.proofs.Parts.{parting, part-fits, part_room, part-next, parted}
use Rattle.wide_scan.proofs.step_parts.Goals as goal

pub loop-i-init : goal.loop-i-init
loop-i-init c = search parting

pub step_part-u-requires : goal.step_part-u-requires
step_part-u-requires c = search (rules, part-fits, part_room)

pub loop-i-preserved : goal.loop-i-preserved
loop-i-preserved c = search part-next

pub returns : goal.returns
returns c = search parted
