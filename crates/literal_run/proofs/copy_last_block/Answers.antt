-- The goal of `copy_last_block` that wants a law.
use Rattle.std.proofs.Common.{rules}
use Rattle.byte_search.proofs.BlockLaws.{none_before}
use Rattle.literal_run.proofs.LiteralLaws.{near-copied}
use Rattle.literal_run.proofs.copy_last_block.Goals as goal

pub returns : goal.returns
returns c =
    near-copied c.args.raw.now c.args.out.now c.args.i c.first_in_block-j.result (search rules)
    (none_before c.first_in_block-j.ensures (λ j h q. search rules)) (search rules) c.copy_part.new.out c.copy_part.ensures
