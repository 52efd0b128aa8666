-- The goals of `decode_token` that want a law of this crate.
use Rattle.piece_decoder.proofs.TokenLaws.{token-run}
use Rattle.piece_decoder.proofs.decode_token.Goals as goal

pub returns : goal.returns
returns c = search token-run
