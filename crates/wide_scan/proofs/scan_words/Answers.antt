-- The goals of `scan_words` that want a law of this crate.
use Rattle.wide_scan.proofs.Runs.{begun, ended, over, passed}
use Rattle.wide_scan.proofs.scan_words.Goals.{then-accepts, else-accepts}
use Rattle.wide_scan.proofs.scan_words.Goals as goal

pub loop-c-init : goal.loop-c-init
loop-c-init c = search begun

pub loop-c-preserved : goal.loop-c-preserved
loop-c-preserved c =
    elim c.if-accepts.branch [
      | then-accepts w ↦ rw (w.ends-is, w.n-is) (search ended)
      | else-accepts w ↦ rw (w.ends-is, w.n-is) (search passed)
    ]

pub returns : goal.returns
returns c = search over
