-- The goal of `fill` that wants a law of this crate.
use Rattle.std.proofs.Common.{arith, rules}
use Rattle.text_writer.proofs.WriteLaws.{filled}
use Rattle.text_writer.proofs.fill.Goals as goal

pub returns : goal.returns
returns c = filled _ _ _ _ c.requires _ (search (rules, c.fill.ensures.after)) _ (omega arith)
