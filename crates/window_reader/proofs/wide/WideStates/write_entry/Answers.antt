-- The goals of `write_entry` that want a law of this crate.
use Rattle.window_reader.proofs.WideEntries.{numbers-written}
use Rattle.window_reader.proofs.wide.WideStates.write_entry.Goals as goal

pub returns : goal.returns
returns c = numbers-written _ _ _ c.requires.table_len c.requires.c_bound c.write_planes.ensures
