-- The goals of `skip` that want a law of this crate.
use Rattle.shift_and_scan.proofs.SkipLaws.{by_table, by_one, by_range}
use Rattle.shift_and_scan.proofs.skip.Goals as goal

pub returns-in-Table : goal.returns-in-Table
returns-in-Table c = search by_table

pub returns-in-Byte : goal.returns-in-Byte
returns-in-Byte c = search by_one

pub returns-in-Range : goal.returns-in-Range
returns-in-Range c = search by_range

pub skip_pair-requires-clause-pair_sound : goal.skip_pair-requires-clause-pair_sound
skip_pair-requires-clause-pair_sound c = c.requires.prefilter_sound.skips.pair c.in-Pair.pair c.in-Pair.is
