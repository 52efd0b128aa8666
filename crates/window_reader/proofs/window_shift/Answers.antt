-- The goals of `window_shift` that want a law of this crate.
use Rattle.window_reader.proofs.WindowLaws.{first_alone, first-empty, first-begins, first-passed, last-byte-state}
use Rattle.window_reader.proofs.Numbers.{some_left}
use borrow.Author.Rules.{rules}
use Rattle.window_reader.proofs.window_shift.Goals as goal

pub returns-then-j-eq0 : goal.returns-then-j-eq0
returns-then-j-eq0 g c = search (first_alone, last-byte-state)

pub returns-then-is_empty : goal.returns-then-is_empty
returns-then-is_empty g c = search (first-empty, last-byte-state)

pub read_back-requires : goal.read_back-requires
read_back-requires g c = search (rules, first-begins, last-byte-state, some_left)

pub read_back-requires-2 : goal.read_back-requires-2
read_back-requires-2 g c = search (rules, first-passed, last-byte-state, some_left)
