-- The laws of `class_from` and `read_class`. On plain values. Assumes nothing.
use mathlib.Core.Path.{◌≡◌, refl, sym, ap, ◌∙◌}
use mathlib.Core.List.{List, [], ◌∷◌}
use mathlib.Core.Bool.{Bool, true, false, cond}
use Prim.Native.Nat.{ℕ, suc, ◌+◌, ◌<◌}
use native.Mathlib.Omega.{arith}
use native.Mathlib.Decide.{dec_le}
use native.Mathlib.Numerals.{add-one}
use native.Mathlib.Nat.{zero-add}
use lib.ListN.{length, get_or, drop}
use lib.Seq.{drop-cons}
use borrow.Author.Tests.{eq-eqb, ne_eqb}
use Rattle.std.specs.Prelude.{Result, Ok, Err, Some}
use Rattle.answers.specs.declared.Refusal.{Refusal}
use Rattle.answers.specs.declared.Refusal.TheVariants.{ClassFault}
use Rattle.model.specs.RefusalNumbers.{class_fault}
use Rattle.model.specs.RuleText as Model
use Rattle.model.specs.RuleText.{faulty, items, bad, good, class, items_from, class_of, class_at, kind_set, some_below}
use Rattle.rule_element.specs.declared.Kind.{Kind}
use Rattle.rule_element.specs.declared.Kind.TheVariants.{Class}
use Rattle.byte_set.specs.declared.ByteSet.{ByteSet}
use Rattle.byte_set.specs.Sets.{add_ranges, none, widen, turn, is_empty}
use Rattle.rule_class.specs.Items.{ReadsItems}
use Rattle.rule_element.specs.Reading.{kind_of, KindMoves, Spells, ReadsClass, ReadsBracket}
use Rattle.rule_class.proofs.Ends.{past_end, within}
use Rattle.rule_class.proofs.ItemsFound.{items-some, items-found, later, items_later}
use Rattle.byte_set.proofs.SetLaws.{class_four, class-member, empty-none, full-some}

-- ---- a class from its first item on

module _ (fold turned : Bool) (s : List ℕ) (from : ℕ) (h : get_or s from 0 ≡ 93 → ⊥) (ranges : ByteSet) (next : ℕ) (ri : ReadsItems s from (Some (ranges, next)))
    (set : ByteSet) (is-set : set.words ≡ turn turned (widen fold ranges.words)) where
  found : (rs : List Model.Range) × (items_from 0 from (drop from s) ≡ items rs next) × (ranges ≡ record { words = add_ranges none rs })
  found = items-found ranges next (items_from 0 from (drop from s)) ri.is

  some : (k : Model.Range) × (ks : List Model.Range) × (found.0 ≡ k ∷ ks)
  some = go found.0 found.1
    where
      go : (rs : List Model.Range) → items_from 0 from (drop from s) ≡ items rs next → (k : Model.Range) × (ks : List Model.Range) × (rs ≡ k ∷ ks)
      go (k ∷ ks) q = (k, ks, refl)
      go [] q = elim (dec_le (length s) from) [
        | yes l ↦ let f : ◌≡◌ {A = Model.Items} faulty (items [] next) = sym (ap (items_from 0 from) (past_end s from l)) ∙ q in absurd (cc)
        | no l ↦ absurd (items-some (get_or s from 0) (drop (suc from) s) from next h (ap (items_from 0 from) (sym (drop-cons s from 0 (omega arith))) ∙ q))
      ]

  abbrev model : Model.Kind
  model = class turned (some.0 ∷ some.1)

  words-are : set.words ≡ turn turned (widen fold (add_ranges none (some.0 ∷ some.1)))
  words-are = is-set ∙ ap (λ (w : ByteSet). turn turned (widen fold w.words)) found.2 ∙ ap (λ (rs : List Model.Range). turn turned (widen fold (add_ranges none rs))) some.2

  tested : (b : Bool) → some_below (kind_set fold model) 256 ≡ b → class_of fold turned (items_from 0 from (drop from s)) ≡ cond b (good model next) (bad class_fault)
  tested b q =
      ap (class_of fold turned) (found.1 ∙ ap (λ (x : List Model.Range). items x next) some.2) ∙ ap (λ (x : Bool). cond x (good model next) (bad class_fault)) q

  pub class_bare : is_empty set.words ≡ true → ReadsClass fold turned s from (Err ClassFault)
  class_bare y = record {
    is = tested false
        (empty-none (turn turned (widen fold (add_ranges none (some.0 ∷ some.1)))) (class_four fold turned (some.0 ∷ some.1)) (kind_set fold model) (class-member fold turned (some.0 ∷ some.1))
        (ap is_empty (sym words-are) ∙ y));
    moves = tt;
  }

  pub class-good : is_empty set.words ≡ false → ReadsClass fold turned s from (Ok (Class set, next))
  class-good y = record {
    is = record {
      model = model;
      bytes = next;
      is = tested true
          (full-some (turn turned (widen fold (add_ranges none (some.0 ∷ some.1)))) (class_four fold turned (some.0 ∷ some.1)) (kind_set fold model) (class-member fold turned (some.0 ∷ some.1))
          (ap is_empty (sym words-are) ∙ y));
      kind-is = ap (λ (w : List ℕ). Class (record { words = w })) words-are;
      next-is = sym (zero-add next);
    };
    moves = (ri.moves.0, ri.moves.1, tt);
  }

-- ---- the class at a `[`

-- the model counts the bytes from a place on, or from the rule's beginning
class_later : (fold : Bool) (at : ℕ) (t : Bool) (x : Model.Items) (r : Result (Kind × ℕ) Refusal) → Spells fold 0 (class_of fold t (later at x)) r → Spells fold at (class_of fold t x) r
unfolding later
class_later fold at t faulty (Err e) p = p
class_later fold at t faulty (Ok k) p = absurd (let q = p.is in cc)
class_later fold at t (items [] n) (Err e) p = p
class_later fold at t (items [] n) (Ok k) p = absurd (let q = p.is in cc)
class_later fold at t (items (r ∷ rs) n) x p = go (some_below (kind_set fold (class t (r ∷ rs))) 256) x p
  where
    go : (b : Bool) (x : Result (Kind × ℕ) Refusal) → Spells fold 0 (cond b (good (class t (r ∷ rs)) (at + n)) (bad class_fault)) x → Spells fold at (cond b (good (class t (r ∷ rs)) n) (bad class_fault)) x
    go true (Ok k) p =
        let m : class t (r ∷ rs) ≡ p.model = let q = p.is in cc in
        let b : at + n ≡ p.bytes = let q = p.is in cc in
        record { model = class t (r ∷ rs); bytes = n; is = refl; kind-is = p.kind-is ∙ ap (kind_of fold) (sym m); next-is = omega (arith, p.next-is) }
    go true (Err e) p = absurd (cc)
    go false (Ok k) p = absurd (let q = p.is in cc)
    go false (Err e) p = p

nearer : (s : List ℕ) (at from : ℕ) (r : Result (Kind × ℕ) Refusal) → at < from → KindMoves s from r → KindMoves s at r
nearer s at from (Err e) l m = tt
nearer s at from (Ok k) l m = let q = m.0 in (omega arith, m.1, m.2)

module _ (fold : Bool) (s : List ℕ) (at : ℕ) (h : at < length s) (r : Result (Kind × ℕ) Refusal) where
  from-class : (k : ℕ) (t : Bool) (cs : List ℕ) → Spells fold 0 (class_of fold t (items_from 0 (at + k) cs)) r → Spells fold at (class_of fold t (items_from 0 k cs)) r
  from-class k t cs p = class_later fold at t (items_from 0 k cs) r (rw (← items_later at 0 k cs) p)

  pub bracket_turned : get_or s (at + 1) 0 ≡ 94 → ReadsClass fold true s (at + 1 + 1) r → ReadsBracket fold s at r
  bracket_turned e rc =
      let d : drop (suc at) s ≡ get_or s (at + 1) 0 ∷ drop (at + 1 + 1) s =
      rw (add-one (at + 1), add-one at) (drop-cons s (suc at) 0 (within s (suc at) 93 (ap (λ (j : ℕ). get_or s j 0) (sym (add-one at)) ∙ e))) in
      let n : at + 1 + 1 ≡ at + 2 = omega arith in
      let p : Spells fold 0 (class_of fold true (items_from 0 (at + 2) (drop (at + 1 + 1) s))) r = rw (← n) rc.is in
      record { is = rw (d, eq-eqb _ _ e) (from-class 2 true (drop (at + 1 + 1) s) p); moves = nearer s at (at + 1 + 1) r (omega arith) rc.moves }

  pub bracket_plain : (get_or s (at + 1) 0 ≡ 94 → ⊥) → ReadsClass fold false s (at + 1) r → ReadsBracket fold s at r
  bracket_plain n rc =
      let e : class_at fold (drop (suc at) s) ≡ class_of fold false (items_from 0 1 (drop (suc at) s)) =
      elim (dec_le (length s) (suc at)) [
        | yes l ↦ rw (past_end s (suc at) l)
        | no l ↦
            let d : drop (suc at) s ≡ get_or s (at + 1) 0 ∷ drop (suc (suc at)) s = rw (add-one at) (drop-cons s (suc at) 0 (omega arith)) in
            rw (d, ne_eqb _ _ n)
      ] in
      record { is = rw (e, ← add-one at) (from-class 1 false (drop (at + 1) s) rc.is); moves = nearer s at (at + 1) r (omega arith) rc.moves }
