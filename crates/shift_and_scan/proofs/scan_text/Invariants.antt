-- What the loop of `scan_text` keeps, and what falls.
use Rattle.std.proofs.Common.{◌-◌, length}
use Rattle.shift_and_loop.specs.Loops.{LoopProgress}
use Rattle.shift_and_scan.proofs.scan_text.Given as goal

abbrev pub invariant-loop-i : goal.invariant-loop-i
invariant-loop-i l = LoopProgress l.table l.m l.text l.initial.ends l.d-2 l.base 0 0 l.ends l.d l.at l.n l.i

abbrev pub decreases-loop-i : goal.decreases-loop-i
decreases-loop-i l = length l.text - l.i
