-- The goal of `find_in_range` that wants a law.
use Rattle.std.proofs.Common.{rules}
use Rattle.byte_search.proofs.BlockLaws.{none_before}
use Rattle.prefilter_search.proofs.find_in_range.Goals as goal

pub returns : goal.returns
returns c = none_before c.find.ensures (λ j h q. search rules)
