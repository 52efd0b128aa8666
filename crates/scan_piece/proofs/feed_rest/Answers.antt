-- The goals of `feed_rest` that want a law.
use Rattle.piece_stepping.proofs.HeldLaws.{rest-fed}
use Rattle.scan_piece.proofs.feed_rest.Goals as goal

pub returns : goal.returns
returns g c = search rest-fed
