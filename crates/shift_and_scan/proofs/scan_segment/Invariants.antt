-- What the loop of `scan_segment` keeps, and what falls.
use Rattle.std.proofs.Common.{◌-◌}
use Rattle.shift_and_scan.proofs.SegmentLaws.{SegmentInvariant}
use Rattle.shift_and_scan.proofs.scan_segment.Given as goal

abbrev pub invariant-loop-i : goal.invariant-loop-i
invariant-loop-i l = SegmentInvariant l.table l.m l.until l.text l.initial.ends l.initial.d l.initial.at l.initial.n l.initial.i l.ends l.d l.at l.n l.i

abbrev pub decreases-loop-i : goal.decreases-loop-i
decreases-loop-i l = l.until - l.i
