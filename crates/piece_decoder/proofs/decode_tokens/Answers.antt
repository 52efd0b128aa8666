-- The goals of `decode_tokens` that want a law of this crate.
use Rattle.piece_decoder.proofs.TokenLaws.{begun, turn, less, stopped, over}
use Rattle.piece_decoder.proofs.decode_tokens.Goals as goal

pub loop-i-init : goal.loop-i-init
loop-i-init c = search begun

pub returns-then-t : goal.returns-then-t
returns-then-t c = search stopped

pub loop-i-smaller : goal.loop-i-smaller
loop-i-smaller c = search less

pub loop-i-preserved : goal.loop-i-preserved
loop-i-preserved c = search turn

pub returns : goal.returns
returns c = search over
