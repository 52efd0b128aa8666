-- The goals of `alone` that want a law of this crate.
use Rattle.code_list.proofs.Bytes.{bytes_known}
use Rattle.rule_codes.proofs.AloneLaws.{none_named}
use Rattle.rule_codes.proofs.alone.Goals as goal

pub returns-then-codes-eq0 : goal.returns-then-codes-eq0
returns-then-codes-eq0 c = search (none_named, bytes_known)
