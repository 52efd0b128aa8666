-- What the loop of `store_block` keeps.
use Rattle.literal_run.proofs.Blocks.{Putting}
use Rattle.literal_run.proofs.store_block.Given as goal

abbrev pub invariant-loop-j : goal.invariant-loop-j
invariant-loop-j l = Putting l.fn.block l.i l.initial.out l.out l.j
