-- The goals of `scan_rest` that want a law.
use Rattle.piece_stepping.proofs.Pieces.{resting, rest_open, rest-turn, rest_over}
use Rattle.scan_piece.proofs.scan_rest.Goals as goal

pub loop-i-init : goal.loop-i-init
loop-i-init g c = search resting

pub returns-then-t : goal.returns-then-t
returns-then-t g c = search rest_open

pub loop-i-preserved : goal.loop-i-preserved
loop-i-preserved g c = search rest-turn

pub returns : goal.returns
returns g c = search rest_over
