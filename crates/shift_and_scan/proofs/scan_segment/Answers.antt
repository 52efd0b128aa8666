-- The goals of `scan_segment` that want a law of this crate.
use Rattle.std.proofs.Common.{rules}
use Rattle.shift_and_scan.proofs.SegmentLaws.{begin, segment_stopped, segment_over, segment_room, turn}
use Rattle.shift_and_scan.proofs.scan_segment.Goals as goal

pub loop-i-init : goal.loop-i-init
loop-i-init c = search begin

pub returns-then-until-j : goal.returns-then-until-j
returns-then-until-j c = search segment_over

pub run_loop-r-requires : goal.run_loop-r-requires
run_loop-r-requires c = search (rules, segment_room)

pub loop-i-preserved : goal.loop-i-preserved
loop-i-preserved c = search turn

pub returns : goal.returns
returns c = search segment_stopped
