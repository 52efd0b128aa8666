-- The goal of `find_byte` that wants a law.
use Rattle.std.proofs.Common.{rules}
use Rattle.byte_search.proofs.BlockLaws.{none_before}
use Rattle.byte_search.proofs.find_byte.Goals as goal

pub returns : goal.returns
returns c = none_before c.find.ensures (λ j h q. search rules)
