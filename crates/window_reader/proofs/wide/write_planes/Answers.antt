-- The goals of `write_planes` that want a law of this crate.
use Rattle.window_reader.proofs.WideEntries.{store_1, store_2, store_3, entry-written}
use Rattle.window_reader.proofs.wide.write_planes.Goals as goal

pub bounds-table-c1 : goal.bounds-table-c1
bounds-table-c1 c = search store_1

pub bounds-table-c2 : goal.bounds-table-c2
bounds-table-c2 c = search store_2

pub bounds-table-c3 : goal.bounds-table-c3
bounds-table-c3 c = search store_3

pub returns : goal.returns
returns c = search entry-written
