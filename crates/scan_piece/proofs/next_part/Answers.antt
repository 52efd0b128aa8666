-- The goal of `next_part` that wants a law.
use Rattle.piece_stepping.proofs.Pieces.{place-stepped}
use Rattle.scan_piece.proofs.next_part.Goals as goal

pub returns-then-i-e : goal.returns-then-i-e
returns-then-i-e g c = search place-stepped
