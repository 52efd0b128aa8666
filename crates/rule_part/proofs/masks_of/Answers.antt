-- The goals of `masks_of` that want a law of this crate.
use Rattle.rule_part.proofs.masks_of.Goals as goal

pub returns : goal.returns
returns c = cc
