-- What the loop of `blend` keeps.
use mathlib.Core.List.{◌++◌}
use lib.ListN.{take, drop}
use Rattle.literal_run.proofs.Blocks.{Filling}
use Rattle.literal_run.proofs.blend.Given as goal

abbrev pub invariant-loop-j : goal.invariant-loop-j
invariant-loop-j l = Filling (take l.n l.new ++ drop l.n l.old) l.block l.j
