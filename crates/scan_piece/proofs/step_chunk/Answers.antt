-- The goals of `step_chunk` that want a law.
use Rattle.piece_stepping.proofs.Pieces.{chunk_fits, room-stepped}
use Rattle.scan_piece.proofs.step_chunk.Goals as goal

pub step_decoded-state-requires-clause-laid_fits : goal.step_decoded-state-requires-clause-laid_fits
step_decoded-state-requires-clause-laid_fits g c = search chunk_fits

pub returns : goal.returns
returns g c = search room-stepped
