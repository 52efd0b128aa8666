-- The goals of `run_on` that want a law of this crate.
use Rattle.shift_and_scan.proofs.SegmentLaws.{reach_room}
use Rattle.std.proofs.Common.{rules}
use Rattle.shift_and_scan.proofs.run_on.Goals as goal

pub run_dense_loop-requires : goal.run_dense_loop-requires
run_dense_loop-requires c = search (rules, reach_room)

pub scan_segment-r-requires : goal.scan_segment-r-requires
scan_segment-r-requires c = search (rules, reach_room)
