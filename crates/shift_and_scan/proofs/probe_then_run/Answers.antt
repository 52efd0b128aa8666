-- The goals of `probe_then_run` that want a law of this crate.
use Rattle.shift_and_scan.proofs.SegmentLaws.{reach_room, second-room, both}
use Rattle.std.proofs.Common.{rules}
use Rattle.shift_and_scan.proofs.probe_then_run.Goals as goal

pub scan_segment-first-requires : goal.scan_segment-first-requires
scan_segment-first-requires c = search (rules, reach_room)

pub run_on-requires-clause-has_room : goal.run_on-requires-clause-has_room
run_on-requires-clause-has_room c = search (second-room, rules)

pub returns-then-first-text : goal.returns-then-first-text
returns-then-first-text c = search both
