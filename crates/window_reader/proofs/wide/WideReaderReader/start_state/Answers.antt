-- The goals of `start_state` that want a law of this crate.
use Rattle.window_reader.proofs.Numbers.{opening-is}
use Rattle.window_reader.proofs.wide.WideReaderReader.start_state.Goals as goal

pub returns : goal.returns
returns c = search opening-is
