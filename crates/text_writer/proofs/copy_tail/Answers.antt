-- The goals of `copy_tail` that want a law of this crate.
use Rattle.std.proofs.Common.{arith, length}
use Rattle.std.proofs.lemmas.Slice.{between_to_end}
use Rattle.text_writer.proofs.WriteLaws.{tail_turn, tail_copied}
use Rattle.text_writer.proofs.copy_tail.Goals as goal

pub loop-i-preserved : goal.loop-i-preserved
loop-i-preserved c =
    let tail = between_to_end c.args.raw.now c.args.from (length c.args.raw.now) (omega arith) in
    tail_turn _ _ _ _ c.requires.from_in_bounds c.requires.raw_in_bounds _ tail _ _ c.loop-i.invariant c.loop-i-test.true

pub returns : goal.returns
returns c =
    let tail = between_to_end c.args.raw.now c.args.from (length c.args.raw.now) (omega arith) in
    tail_copied _ _ _ _ c.requires.from_in_bounds c.requires.raw_in_bounds _ tail _ _ c.loop-i.invariant (omega arith)
