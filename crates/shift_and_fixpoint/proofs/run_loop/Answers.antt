-- The goals of `run_loop` that want a law of this crate.
use Rattle.shift_and_step.proofs.Steps.{closed_by}
use Rattle.shift_and_loop.proofs.LoopLaws.{whole_room}
use borrow.Author.Rules.{rules}
use Rattle.shift_and_fixpoint.proofs.run_loop.Goals as goal

pub loop_no_closure-requires : goal.loop_no_closure-requires
loop_no_closure-requires c = search (rules, closed_by)

pub loop_skipping_fixpoints-requires : goal.loop_skipping_fixpoints-requires
loop_skipping_fixpoints-requires c = search (rules, closed_by)

pub loop_closure_if_needed-requires : goal.loop_closure_if_needed-requires
loop_closure_if_needed-requires c = search (rules, closed_by)

pub loop_once-requires : goal.loop_once-requires
loop_once-requires c = search (rules, whole_room)
