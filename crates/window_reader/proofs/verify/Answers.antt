-- The goals of `verify` that want a law of this crate.
use Rattle.window_reader.proofs.VerifyLaws.{verify_begun, verify_died, verify_ended, verify_over}
use Rattle.window_reader.proofs.Numbers.{none_left, some_left, still_verifying}
use Rattle.window_reader.proofs.verify.Goals as goal

pub loop-e-init : goal.loop-e-init
loop-e-init g c = search verify_begun

pub returns-then-is_empty : goal.returns-then-is_empty
returns-then-is_empty g c = search (verify_died, none_left)

pub returns-then-accepts : goal.returns-then-accepts
returns-then-accepts g c = search (verify_ended, some_left)

pub loop-e-preserved : goal.loop-e-preserved
loop-e-preserved g c = search still_verifying

pub returns : goal.returns
returns g c = search verify_over
