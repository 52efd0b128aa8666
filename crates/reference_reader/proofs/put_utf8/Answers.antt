-- The goals of `put_utf8` that want a law of this crate.
use lib.Dec.{lit<}
use lib.ListN.{length-set}
use Rattle.reference_reader.proofs.Writing.{room1, room2, room3, room4, put1, put2, put3, put4}
use Rattle.reference_reader.proofs.put_utf8.Goals as goal

pub bounds-out-0 : goal.bounds-out-0
bounds-out-0 c = search (room1, lit<)

pub returns-then-code-lt128 : goal.returns-then-code-lt128
returns-then-code-lt128 c = search put1

pub bounds-out-0-then-code-lt2048 : goal.bounds-out-0-then-code-lt2048
bounds-out-0-then-code-lt2048 c = search (room2, lit<)

pub bounds-out-1 : goal.bounds-out-1
bounds-out-1 c = search (room2, length-set, lit<)

pub returns-then-code-lt2048 : goal.returns-then-code-lt2048
returns-then-code-lt2048 c = search put2

pub bounds-out-0-then-code-lt65536 : goal.bounds-out-0-then-code-lt65536
bounds-out-0-then-code-lt65536 c = search (room3, lit<)

pub bounds-out-1-then-code-lt65536 : goal.bounds-out-1-then-code-lt65536
bounds-out-1-then-code-lt65536 c = search (room3, length-set, lit<)

pub bounds-out-2 : goal.bounds-out-2
bounds-out-2 c = search (room3, length-set, lit<)

pub returns-then-code-lt65536 : goal.returns-then-code-lt65536
returns-then-code-lt65536 c = search put3

pub bounds-out-0-2 : goal.bounds-out-0-2
bounds-out-0-2 c = search (room4, lit<)

pub bounds-out-1-2 : goal.bounds-out-1-2
bounds-out-1-2 c = search (room4, length-set, lit<)

pub bounds-out-2-2 : goal.bounds-out-2-2
bounds-out-2-2 c = search (room4, length-set, lit<)

pub bounds-out-3 : goal.bounds-out-3
bounds-out-3 c = search (room4, length-set, lit<)

pub returns : goal.returns
returns c = search put4
