-- The goals of `held_byte` that want a law of this crate.
use Rattle.plan_part.proofs.Fields.{byte_in, byte_past}
use Rattle.plan_part.proofs.held_byte.Goals as goal

pub returns-then-j-n : goal.returns-then-j-n
returns-then-j-n c = search byte_in

pub returns : goal.returns
returns c = search byte_past
