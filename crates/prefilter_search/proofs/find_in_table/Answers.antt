-- The goals of `find_in_table` that want a law.
use Rattle.std.proofs.Common.{rules}
use Rattle.byte_search.proofs.BlockLaws.{none_before, miss_join}
use Rattle.prefilter_search.proofs.find_in_table.Goals as goal

pub returns : goal.returns
returns c = miss_join (none_before c.skip_whole_blocks-j.ensures (λ j h q. search rules)) (none_before c.find_in_turn.ensures (λ j h q. search rules))
