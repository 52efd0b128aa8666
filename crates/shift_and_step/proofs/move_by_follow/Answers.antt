-- The goals of `move_by_follow` that want a law of this crate.
use Rattle.shift_and_step.proofs.Steps.{by_follow}
use Rattle.shift_and_step.proofs.move_by_follow.Goals as goal

pub returns : goal.returns
returns c = search by_follow
