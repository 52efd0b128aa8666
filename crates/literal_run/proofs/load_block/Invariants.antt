-- What the loop of `load_block` keeps.
use Rattle.literal_run.proofs.Blocks.{Filling}
use lib.ListN.{drop}
use Rattle.literal_run.proofs.load_block.Given as goal

abbrev pub invariant-loop-j : goal.invariant-loop-j
invariant-loop-j l = Filling (drop l.i l.s) l.block l.j
