-- The goals of `scan_decoded` that want a law.
use Rattle.piece_stepping.proofs.Steps.{uneven_fits, uneven_ran}
use Rattle.scan_pairs.proofs.scan_decoded.Goals as goal

pub pair_unevenly-requires : goal.pair_unevenly-requires
pair_unevenly-requires g c = search uneven_fits

pub returns : goal.returns
returns g c = search uneven_ran
