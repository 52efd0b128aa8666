-- The goals of `accepts` that want a law of this crate.
use Rattle.window_reader.proofs.Numbers.{top-is}
use Rattle.window_reader.proofs.wide.WideReaderReader.accepts.Goals as goal

pub returns : goal.returns
returns c = search top-is
