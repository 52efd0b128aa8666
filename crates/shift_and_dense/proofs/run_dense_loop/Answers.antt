-- The goals of `run_dense_loop` that want a law of this crate.
use Rattle.shift_and_step.proofs.Steps.{closed_by}
use Rattle.shift_and_loop.proofs.LoopLaws.{whole_room}
use Rattle.std.proofs.Common.{rules}
use Rattle.shift_and_dense.proofs.run_dense_loop.Goals as goal

pub loop_branchless-requires : goal.loop_branchless-requires
loop_branchless-requires c = search (rules, closed_by)

pub loop_separated-requires : goal.loop_separated-requires
loop_separated-requires c = search (rules, closed_by)

pub loop_closure_always-requires : goal.loop_closure_always-requires
loop_closure_always-requires c = search (rules, closed_by)

pub loop_once-requires : goal.loop_once-requires
loop_once-requires c = search (rules, whole_room)
