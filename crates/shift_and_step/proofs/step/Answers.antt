-- The goals of `step` that want a law of this crate.
use Rattle.shift_and.specs.Automaton.{step_with}
use Rattle.shift_and_step.proofs.Steps.{step_none}
use Rattle.shift_and_step.proofs.step.Goals as goal

pub returns-then-m-eq0 : goal.returns-then-m-eq0
returns-then-m-eq0 c = search step_none

pub returns : goal.returns
unfolding step_with
returns c = cc
