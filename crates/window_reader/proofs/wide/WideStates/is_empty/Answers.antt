-- The goals of `is_empty` that want a law of this crate.
use Rattle.window_reader.proofs.Numbers.{empty-is}
use Rattle.window_reader.proofs.wide.WideStates.is_empty.Goals as goal

pub returns : goal.returns
returns c = empty-is c.args.self
