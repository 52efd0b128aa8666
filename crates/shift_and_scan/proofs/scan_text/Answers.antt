-- The goals of `scan_text` that want a law of this crate.
use Rattle.std.proofs.Common.{arith, rules}
use Rattle.shift_and_loop.proofs.LoopLaws.{begun}
use Rattle.shift_and_scan.proofs.SegmentLaws.{over, probe_room, probes_on}
use Rattle.shift_and_scan.proofs.scan_text.Goals as goal

pub loop-i-init : goal.loop-i-init
loop-i-init c = begun _ _ _ _ _ _ _ _ (omega arith)

pub probe_then_run-r-requires : goal.probe_then_run-r-requires
probe_then_run-r-requires c = search (rules, probe_room)

pub loop-i-preserved : goal.loop-i-preserved
loop-i-preserved c = search probes_on

pub returns : goal.returns
returns c = search over
