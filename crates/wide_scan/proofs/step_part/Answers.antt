-- The goals of `step_part` that want a law of this crate.
use Rattle.wide_scan.proofs.Parts.{part-alone}
use Rattle.wide_scan.proofs.step_part.Goals as goal

pub returns-in-Some : goal.returns-in-Some
returns-in-Some c = let f = rw c.in-Some.is at c.try_one_word.ensures in search (part-alone, f)
