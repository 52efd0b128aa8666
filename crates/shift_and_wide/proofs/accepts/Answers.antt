-- The goals of `accepts` that want a law of this crate.
use Rattle.shift_and_wide.proofs.Wides.{accepts_0, accepts_1, accepts_2, accepts_3}
use Rattle.shift_and_wide.proofs.accepts.Goals as goal

pub returns-then-top-lt64 : goal.returns-then-top-lt64
returns-then-top-lt64 c = search accepts_0

pub returns-then-top-lt128 : goal.returns-then-top-lt128
returns-then-top-lt128 c = search accepts_1

pub returns-then-top-lt192 : goal.returns-then-top-lt192
returns-then-top-lt192 c = search accepts_2

pub returns : goal.returns
returns c = search accepts_3
