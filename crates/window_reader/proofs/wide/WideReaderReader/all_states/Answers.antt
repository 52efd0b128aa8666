-- The goals of `all_states` that want a law of this crate.
use Rattle.window_reader.proofs.Numbers.{all_ones}
use Rattle.window_reader.proofs.wide.WideReaderReader.all_states.Goals as goal

pub returns : goal.returns
returns c = all_ones
