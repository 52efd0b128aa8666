-- The goals of `read_short` that want a law of this crate.
use Rattle.reference_reader.proofs.Readings.{not_amp_lem, name_place, hex_place, decimal-place, after-mark, after_hash}
use Rattle.reference_reader.proofs.read_short.Goals as goal

pub returns-then-byte_or_zero-ne38 : goal.returns-then-byte_or_zero-ne38
returns-then-byte_or_zero-ne38 c = search not_amp_lem

pub read_name-requires : goal.read_name-requires
read_name-requires c = name_place c.args.s.now _ c.byte_or_zero.ensures c.if-byte_or_zero-ne38.false _ c.byte_or_zero-2.ensures c.if-byte_or_zero-ne35.true

pub read_number-requires : goal.read_number-requires
read_number-requires c = hex_place c.args.s.now c.requires _ c.byte_or_zero-3.ensures c.if-byte_or_zero-eq120.true

pub returns-then-byte_or_zero-eq120 : goal.returns-then-byte_or_zero-eq120
returns-then-byte_or_zero-eq120 c = search after-mark

pub read_number-requires-2 : goal.read_number-requires-2
read_number-requires-2 c = decimal-place c.args.s.now c.requires _ c.byte_or_zero-2.ensures c.if-byte_or_zero-ne35.false

pub returns : goal.returns
returns c = search after_hash
