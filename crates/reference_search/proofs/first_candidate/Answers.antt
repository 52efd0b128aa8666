-- The goals of `first_candidate` that want a law.
use Rattle.std.proofs.Common.{rules}
use Rattle.byte_search.proofs.BlockLaws.{none_before}
use Rattle.reference_search.proofs.CandidateLaws.{no_amp}
use Rattle.reference_search.proofs.first_candidate.Goals as goal

pub returns-then-is_candidate : goal.returns-then-is_candidate
returns-then-is_candidate c = none_before c.first_in_block-j.ensures (λ j h q. no_amp c.args.text.now j (search rules))

pub returns : goal.returns
returns c = none_before c.first_in_block.ensures (λ j h q. search rules)
