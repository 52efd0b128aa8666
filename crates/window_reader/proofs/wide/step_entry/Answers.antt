-- The goals of `step_entry` that want a law of this crate.
use Rattle.window_reader.proofs.Numbers.{step_is}
use Rattle.window_reader.proofs.wide.step_entry.Goals as goal

pub returns : goal.returns
returns c = search step_is
