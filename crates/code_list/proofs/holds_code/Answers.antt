-- The goal of `holds_code` that wants a law of this crate.
use Rattle.std.proofs.Common.{rules, tests}
use Rattle.std.proofs.lemmas.Iterator.{YieldsList-from_slice}
use Rattle.std.proofs.lemmas.Iterator.Search.{any_from_yields_List}
use Rattle.model.specs.Codes.{in_set}
use Rattle.code_list.proofs.CodeLists.{share_any}
use Rattle.code_list.proofs.holds_code.Goals as goal

pub returns : goal.returns
returns c =
    let set = c.args.set.now in
    share_any set c.args.codes.now _
    (any_from_yields_List (in_set set) _ _ _ c.any.ensures.ran (YieldsList-from_slice c.args.codes.now cc) (λ x b q k. search (rules, tests)))
