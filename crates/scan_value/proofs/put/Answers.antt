-- The goals of `put` that want a law of this crate.
use Rattle.scan_value.proofs.Readback.{plan_after, put_is}
use Rattle.scan_value.proofs.put.Goals as goal

pub put-requires : goal.put-requires
put-requires c = search plan_after

pub returns : goal.returns
returns c = search put_is
