-- The goals of `char_or_replacement` that want a law of this crate.
use Rattle.reference_reader.proofs.Numbers.{a_char, no_char}
use Rattle.reference_reader.proofs.char_or_replacement.Goals as goal

pub returns-then-is_char : goal.returns-then-is_char
returns-then-is_char c = search a_char

pub returns : goal.returns
returns c = search no_char
