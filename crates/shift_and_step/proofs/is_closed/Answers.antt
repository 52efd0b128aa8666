-- The goals of `is_closed` that want a law of this crate.
use Rattle.shift_and_step.proofs.Steps.{start_closed, is_closed_lem, unclosed}
use Rattle.shift_and_step.proofs.is_closed.Goals as goal

pub returns-then-m-ne0 : goal.returns-then-m-ne0
returns-then-m-ne0 c = search unclosed

pub returns-then-d-q : goal.returns-then-d-q
returns-then-d-q c = search start_closed

pub returns-then-d-ne1 : goal.returns-then-d-ne1
returns-then-d-ne1 c = search unclosed

pub returns : goal.returns
returns c = search is_closed_lem
