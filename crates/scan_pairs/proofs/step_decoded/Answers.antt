-- The goals of `step_decoded` that want a law.
use Rattle.piece_stepping.proofs.Steps.{stepped_laid}
use Rattle.scan_pairs.proofs.step_decoded.Goals as goal

pub returns : goal.returns
returns g c = search stepped_laid
