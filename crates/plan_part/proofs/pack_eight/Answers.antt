-- The goals of `pack_eight` that want a law of this crate.
use Rattle.plan_part.proofs.Fields.{packed_none, packed_eight}
use Rattle.plan_part.proofs.pack_eight.Goals as goal

pub returns-then-j-h : goal.returns-then-j-h
returns-then-j-h c = search packed_none

pub returns : goal.returns
returns c = search packed_eight
