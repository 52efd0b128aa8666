-- The goals of `put` that want a law of this crate.
use Rattle.plan_part.proofs.Fields.{put_all}
use Rattle.plan_part.proofs.put.Goals as goal

pub returns : goal.returns
returns c = search put_all
