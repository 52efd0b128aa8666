-- The goal of `blend` that wants a law.
use Rattle.std.proofs.Common.{rules}
use Rattle.literal_run.proofs.Blocks.{mix_new, mix_old}
use Rattle.literal_run.proofs.blend.Goals as goal
use Rattle.literal_run.proofs.blend.Goals.{then-j-n, else-j-n}

pub loop-j-preserved : goal.loop-j-preserved
loop-j-preserved c =
    elim c.if-j-n.branch [
      | then-j-n w ↦ rw w.block-is (search (rules, mix_new))
      | else-j-n w ↦ rw w.block-is (search (rules, mix_old))
    ]
