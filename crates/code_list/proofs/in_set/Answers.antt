-- The goals of `in_set` that want a law of this crate.
use Rattle.code_list.proofs.CodeLists.{in_set-is}
use Rattle.code_list.proofs.in_set.Goals as goal

pub returns : goal.returns
returns c = search in_set-is
