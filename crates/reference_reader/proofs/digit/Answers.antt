-- The goals of `digit` that want a law of this crate.
use Rattle.reference_reader.proofs.Numbers.{digit_low, digit_decimal, digit_other, digit_between, digit_upper, digit_after, digit_small, digit_high}
use Rattle.reference_reader.proofs.digit.Goals as goal

pub returns-then-c-lt48 : goal.returns-then-c-lt48
returns-then-c-lt48 c = search digit_low

pub returns-then-c-le57 : goal.returns-then-c-le57
returns-then-c-le57 c = search digit_decimal

pub returns-then-not-hex : goal.returns-then-not-hex
returns-then-not-hex c = search digit_other

pub returns-then-c-lt65 : goal.returns-then-c-lt65
returns-then-c-lt65 c = search digit_between

pub returns-then-c-le70 : goal.returns-then-c-le70
returns-then-c-le70 c = search digit_upper

pub returns-then-c-lt97 : goal.returns-then-c-lt97
returns-then-c-lt97 c = search digit_after

pub returns-then-c-le102 : goal.returns-then-c-le102
returns-then-c-le102 c = search digit_small

pub returns : goal.returns
returns c = search digit_high
