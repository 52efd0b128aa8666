-- The goals of `is_clear` that want a law of this crate.
use Rattle.prefilter.proofs.Unions.{clear-is}
use Rattle.prefilter.proofs.Start.is_clear.Goals as goal

pub returns : goal.returns
returns c = let e = c.entry.ensures in rw e (search clear-is)
