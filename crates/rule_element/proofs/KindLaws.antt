-- The laws of `read_kind`. On plain values. Assumes nothing.
use mathlib.Core.Path.{◌≡◌, refl, sym, ap, ◌∙◌}
use mathlib.Core.List.{List, [], ◌∷◌}
use mathlib.Core.Bool.{Bool, true, false, cond}
use Prim.Native.Nat.{ℕ, suc, ◌+◌, ◌<◌}
use native.Mathlib.Omega.{arith}
use lib.ListN.{length, get_or, drop}
use lib.Seq.{drop-cons}
use borrow.Author.Tests.{ne_eqb}
use Rattle.std.specs.Prelude.{Some, None, Result, Ok, Err}
use Rattle.answers.specs.declared.Refusal.{Refusal}
use Rattle.answers.specs.declared.Refusal.TheVariants.{ByteFault}
use Rattle.model.specs.RefusalNumbers.{byte_fault}
use Rattle.model.specs.RuleText as Model
use Rattle.model.specs.RuleText.{no_end, an_end, bad, good, byte, escaped_end, escape_at, kind_at}
use Rattle.rule_class.specs.Items.{ReadsEscape}
use Rattle.rule_class.proofs.Ends.{end-found, end_missed}
use Rattle.rule_element.specs.declared.Kind.{Kind}
use Rattle.rule_element.specs.declared.Kind.TheVariants.{Byte as AByte}
use Rattle.rule_element.specs.Reading.{ReadsBracket, ReadsGap, ReadsKind}

abbrev kind_of_end : Model.ReadEnd → Model.ReadKind
kind_of_end no_end = bad byte_fault
kind_of_end (an_end c n) = good (byte c) n

-- outside a class an escaped byte is the kind, where inside it is an end
escape_as : (l : List ℕ) → kind_of_end (escaped_end l) ≡ escape_at l
escape_as [] = refl
escape_as (x ∷ l) = go (Model.may_escape x)
  where
    go : (y : Bool) → kind_of_end (cond y (an_end x 2) no_end) ≡ cond y (good (byte x) 2) (bad byte_fault)
    go true = refl
    go false = refl

module _ (fold : Bool) (s : List ℕ) (at : ℕ) (h : at < length s) where
  here : drop at s ≡ get_or s at 0 ∷ drop (suc at) s
  here = drop-cons s at 0 h

  pub kind-class : get_or s at 0 ≡ 91 → (r : Result (Kind × ℕ) Refusal) → ReadsBracket fold s at r → ReadsKind fold s at r
  kind-class e r rc = record { is = rw (here, e) rc.is; moves = rc.moves }

  pub kind-gap : get_or s at 0 ≡ 123 → (r : Result (Kind × ℕ) Refusal) → ReadsGap s at r → ReadsKind fold s at r
  kind-gap e r rc = record { is = rw (here, e) (rc.is fold); moves = rc.moves }

  module _ (e : get_or s at 0 ≡ 92) where
    by_escape : kind_at fold (drop at s) ≡ kind_of_end (escaped_end (drop (suc at) s))
    by_escape = rw (here, e) (sym (escape_as (drop (suc at) s)))

    pub kind_no_escape : ReadsEscape s at None → ReadsKind fold s at (Err ByteFault)
    kind_no_escape r = record { is = by_escape ∙ ap kind_of_end (end_missed at (escaped_end (drop (suc at) s)) r.is); moves = tt }

    pub kind_escape : (v next : ℕ) → ReadsEscape s at (Some (v, next)) → ReadsKind fold s at (Ok (AByte v, next))
    kind_escape v next r =
        let g = end-found at v next (escaped_end (drop (suc at) s)) r.is in
        let m = r.moves in
        record {
          is = record { model = byte v; bytes = g.0; is = by_escape ∙ ap kind_of_end g.1; kind-is = refl; next-is = g.2 };
          moves = (m.0, m.1, tt);
        }

  pub kind-plain : (get_or s at 0 ≡ 46 → ⊥) → (get_or s at 0 ≡ 91 → ⊥) → (get_or s at 0 ≡ 123 → ⊥) → (get_or s at 0 ≡ 92 → ⊥) → (get_or s at 0 ≡ 63 → ⊥) → (get_or s at 0 ≡ 43 → ⊥) → (get_or s at 0 ≡ 42 → ⊥) → (get_or s at 0 ≡ 93 → ⊥) → (get_or s at 0 ≡ 125 → ⊥)
      → ReadsKind fold s at (Ok (AByte (get_or s at 0), at + 1))
  kind-plain n1 n2 n3 n4 n5 n6 n7 n8 n9 = record {
    is = record {
      model = byte (get_or s at 0);
      bytes = 1;
      is = rw here (simp (ne_eqb _ _ n1, ne_eqb _ _ n2, ne_eqb _ _ n3, ne_eqb _ _ n4, ne_eqb _ _ n5, ne_eqb _ _ n6, ne_eqb _ _ n7, ne_eqb _ _ n8, ne_eqb _ _ n9));
      kind-is = refl;
      next-is = refl;
    };
    moves = (omega arith, omega arith, tt);
  }
