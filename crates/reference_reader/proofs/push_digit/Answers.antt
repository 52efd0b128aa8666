-- The goals of `push_digit` that want a law of this crate.
use Rattle.reference_reader.proofs.Numbers.{push_hex, push_decimal}
use Rattle.reference_reader.proofs.push_digit.Goals as goal

pub returns-then-hex : goal.returns-then-hex
returns-then-hex c = search push_hex

pub returns : goal.returns
returns c = search push_decimal
