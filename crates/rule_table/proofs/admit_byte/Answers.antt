-- The goals of `admit_byte` that want a law of this crate.
use Rattle.rule_table.proofs.GainLaws.{byte-once, byte_twice}
use Rattle.rule_table.proofs.admit_byte.Goals as goal

pub returns-then-fold : goal.returns-then-fold
returns-then-fold c = search byte_twice

pub returns : goal.returns
returns c = search byte-once
