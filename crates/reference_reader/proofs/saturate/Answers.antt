-- The goals of `saturate` that want a law of this crate.
use Rattle.reference_reader.proofs.Numbers.{saturate_over, saturate_under}
use Rattle.reference_reader.proofs.saturate.Goals as goal

pub returns-then-n-lt-CODE_LIMIT : goal.returns-then-n-lt-CODE_LIMIT
returns-then-n-lt-CODE_LIMIT c = search saturate_under

pub returns : goal.returns
returns c = search saturate_over
