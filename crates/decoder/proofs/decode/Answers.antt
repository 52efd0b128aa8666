-- The goals of `decode` that want a law of this crate.
use Rattle.decoder.proofs.DecodeLaws.{too_long, too_short_lem, accepted}
use Rattle.decoder.proofs.decode.Goals as goal

pub returns-then-raw-gt-TEXT_LIMIT : goal.returns-then-raw-gt-TEXT_LIMIT
returns-then-raw-gt-TEXT_LIMIT c = search too_long

pub returns-then-out-raw : goal.returns-then-out-raw
returns-then-out-raw c = search too_short_lem

pub returns : goal.returns
returns c = search accepted
