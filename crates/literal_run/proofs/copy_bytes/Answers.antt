-- The goal of `copy_bytes` that wants a law.
use Rattle.literal_run.proofs.LiteralLaws.{copy_byte}
use Rattle.literal_run.proofs.copy_bytes.Goals as goal

pub loop-j-preserved : goal.loop-j-preserved
loop-j-preserved c = search copy_byte
