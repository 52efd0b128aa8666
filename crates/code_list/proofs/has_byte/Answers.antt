-- The goals of `has_byte` that want a law of this crate.
use Rattle.std.proofs.Common.{rules, tests, refl}
use Rattle.std.proofs.lemmas.Iterator.{YieldsList-from_range}
use Rattle.std.proofs.lemmas.Iterator.Search.{any_from_yields_List}
use Rattle.model.specs.Codes.{in_set}
use Rattle.code_list.proofs.CodeLists.{some_any}
use Rattle.code_list.proofs.has_byte.Goals as goal

pub returns : goal.returns
returns c =
    let set = c.args.set.now in
    some_any set 256 _
    (any_from_yields_List (in_set set) _ _ _ c.any.ensures.ran (YieldsList-from_range 0 256 256 refl refl) (λ x b q k. search (rules, tests)))
