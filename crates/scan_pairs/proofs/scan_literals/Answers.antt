-- The goals of `scan_literals` that want a law.
use Rattle.piece_stepping.proofs.Steps.{even-fits, even-ran}
use Rattle.scan_pairs.proofs.scan_literals.Goals as goal

pub pair_evenly-requires : goal.pair_evenly-requires
pair_evenly-requires g c = search even-fits

pub returns : goal.returns
returns g c = search even-ran
