-- The goals of `union_without` that want a law of this crate.
use Rattle.prefilter.proofs.Unions.{others_are, others_sorted}
use Rattle.prefilter.proofs.Start.union_without.Goals as goal

pub returns : goal.returns
returns c = search (others_are, others_sorted)
