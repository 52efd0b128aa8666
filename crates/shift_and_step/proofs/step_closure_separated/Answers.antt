-- The goals of `step_closure_separated` that want a law of this crate.
use Rattle.shift_and_step.proofs.Steps.{has-start, step_flood, even_of}
use Rattle.std.proofs.Common.{rules}
use Rattle.shift_and_step.proofs.step_closure_separated.Goals as goal

pub move_keeping_start-x-requires : goal.move_keeping_start-x-requires
move_keeping_start-x-requires c = search has-start

pub flood_guarded-requires : goal.flood_guarded-requires
flood_guarded-requires c = search (rules, even_of)

pub returns : goal.returns
returns c = search step_flood
