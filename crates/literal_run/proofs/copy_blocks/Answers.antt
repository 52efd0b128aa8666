-- The goal of `copy_blocks` that wants a law.
use Rattle.std.proofs.Common.{rules}
use Rattle.byte_search.proofs.BlockLaws.{none_before}
use Rattle.literal_run.proofs.LiteralLaws.{copy_block}
use Rattle.literal_run.proofs.copy_blocks.Goals as goal

pub loop-i-preserved : goal.loop-i-preserved
loop-i-preserved c =
    copy_block c.args.raw.now 0 c.args.out.now c.loop-i.invariant (search rules)
    (none_before (c.any_in_block.ensures (search rules)) (λ j h q. search rules)) c.copy_block.new.out c.copy_block.ensures
