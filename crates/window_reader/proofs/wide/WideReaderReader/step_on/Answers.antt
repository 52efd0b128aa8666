-- The goals of `step_on` that want a law of this crate.
use Rattle.window_reader.proofs.Numbers.{step_on-is}
use Rattle.window_reader.proofs.wide.WideReaderReader.step_on.Goals as goal

pub returns : goal.returns
returns c = search step_on-is
