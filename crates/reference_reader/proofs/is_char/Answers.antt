-- The goals of `is_char` that want a law of this crate.
use Rattle.reference_reader.proofs.Numbers.{char_9, char_10, char_13, char_low, char_first, char_surrogate, char_second, char_last, char_third, char_over}
use Rattle.reference_reader.proofs.is_char.Goals as goal

pub returns-then-n-eq9 : goal.returns-then-n-eq9
returns-then-n-eq9 c = search char_9

pub returns-then-n-eq10 : goal.returns-then-n-eq10
returns-then-n-eq10 c = search char_10

pub returns-then-n-eq13 : goal.returns-then-n-eq13
returns-then-n-eq13 c = search char_13

pub returns-then-n-lt32 : goal.returns-then-n-lt32
returns-then-n-lt32 c = search char_low

pub returns-then-n-le55295 : goal.returns-then-n-le55295
returns-then-n-le55295 c = search char_first

pub returns-then-n-lt57344 : goal.returns-then-n-lt57344
returns-then-n-lt57344 c = search char_surrogate

pub returns-then-n-le65533 : goal.returns-then-n-le65533
returns-then-n-le65533 c = search char_second

pub returns-then-n-lt65536 : goal.returns-then-n-lt65536
returns-then-n-lt65536 c = search char_last

pub returns-then-n-le1114111 : goal.returns-then-n-le1114111
returns-then-n-le1114111 c = search char_third

pub returns : goal.returns
returns c = search char_over
