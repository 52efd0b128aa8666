-- Row 16 by the bytes at two places, that of the first element and that of the last: the laws of `prepare`. On plain values. Assumes nothing.
use mathlib.Core.Path.{◌≡◌, refl, sym, ap, ap₂, ◌∙◌}
use mathlib.Core.List.{List, [], ◌∷◌}
use mathlib.Core.Bool.{Bool, true, false, cond}
use Prim.Native.Nat.{ℕ, zero, suc, pred, ◌+◌}
use native.Mathlib.Numerals.{add-one}
use lib.Dec.{eqb, eqb→eq}
use lib.ListN.{drop}
use lib.Seq.{drop-drop}
use Rattle.model.specs.RefusalNumbers.{mark_fault, byte_fault}
use Rattle.model.specs.Ascii.{ascii}
use Rattle.model.specs.RuleText as Model
use Rattle.model.specs.RuleText.{fold_flag, one_of, may_escape, kind_set, byte, any, class, bad, good, Items, faulty, items, items_from, some_below, class_of, class_at, gap_at, escape_at, kind_at, often_after, mark_bytes}
use Rattle.model.specs.Spelling.{Spelled, spelled_from, spelled, unequal, Outer, inner, outer_at, first_outer, last_outer, either_outer, outer}
use Rattle.model.specs.NumberedAnswers.{or_outer, outer_checked, parse}
use Rattle.model.proofs.Truth.{T-to}
use Rattle.model.proofs.Accepted.{spelled-good}
use Rattle.answers.specs.declared.Refusal.TheVariants.{OuterGap}
use Rattle.answers.specs.declared.Refused.{Refused}
use Rattle.answers.specs.Answers.{refused_at}
use Rattle.rule_gap.specs.Bounds.{unequal_kind, unequal_at}
use Rattle.rule_parser.specs.declared.StoredRule.{StoredRule}
use Rattle.rule_parser.specs.Gathering.{last_place}
use Rattle.rule_parser.specs.Preparing.{Stores, PreparedRule, RuleRefused}

-- ---- an element is a gap of unequal bounds exactly when one begins at its place, whatever the fold

either_equal : (b : Bool) (x y : Model.ReadKind) → unequal_kind x ≡ false → unequal_kind y ≡ false → unequal_kind (cond b x y) ≡ false
either_equal true x y h g = h
either_equal false x y h g = g

class_equal : (fold turned : Bool) (x : Items) → unequal_kind (class_of fold turned x) ≡ false
class_equal fold turned faulty = refl
class_equal fold turned (items [] n) = refl
class_equal fold turned (items (r ∷ rs) n) = either_equal (some_below (kind_set fold (class turned (r ∷ rs))) 256) (good (class turned (r ∷ rs)) n) _ refl refl

bracket_equal : (fold : Bool) (cs : List ℕ) → unequal_kind (class_at fold cs) ≡ false
bracket_equal fold [] = refl
bracket_equal fold (c ∷ cs) = either_equal (eqb c 94) _ _ (class_equal fold true (items_from 0 2 cs)) (class_equal fold false (items_from 0 1 (c ∷ cs)))

escape_equal : (cs : List ℕ) → unequal_kind (escape_at cs) ≡ false
escape_equal [] = refl
escape_equal (c ∷ cs) = either_equal (may_escape c) (good (byte c) 2) (bad byte_fault) refl refl

-- any other kind, by its first byte
other_equal : (c : ℕ) (cs : List ℕ) → unequal_kind (cond (eqb c 92) (escape_at cs) (cond (one_of (ascii "?+*") c) (bad mark_fault) (cond (one_of (ascii "]}") c) (bad byte_fault) (good (byte c) 1)))) ≡ false
other_equal c cs =
    either_equal (eqb c 92) (escape_at cs) (cond (one_of (ascii "?+*") c) (bad mark_fault) (cond (one_of (ascii "]}") c) (bad byte_fault) (good (byte c) 1))) (escape_equal cs)
    (either_equal (one_of (ascii "?+*") c) (bad mark_fault) (cond (one_of (ascii "]}") c) (bad byte_fault) (good (byte c) 1)) refl
    (either_equal (one_of (ascii "]}") c) (bad byte_fault) (good (byte c) 1) refl refl))

pub unequal-kind : (fold : Bool) (cs : List ℕ) → unequal_kind (kind_at fold cs) ≡ unequal_at cs
unequal-kind fold [] = refl
unequal-kind fold (c ∷ cs) = go (eqb c 123) refl
  where
    rest : Model.ReadKind
    rest = cond (eqb c 92) (escape_at cs) (cond (one_of (ascii "?+*") c) (bad mark_fault) (cond (one_of (ascii "]}") c) (bad byte_fault) (good (byte c) 1)))

    go : (b : Bool) → eqb c 123 ≡ b → unequal_kind (kind_at fold (c ∷ cs)) ≡ unequal_at (c ∷ cs)
    go true q = let e : c ≡ 123 = eqb→eq c 123 (T-to (sym q) tt) in ap (λ (x : ℕ). unequal_kind (kind_at fold (x ∷ cs))) e ∙ sym (ap (λ (x : ℕ). unequal_at (x ∷ cs)) e)
    go false q =
        ap (λ (b : Bool). unequal_kind (cond (eqb c 46) (good any 1) (cond (eqb c 91) (class_at fold cs) (cond b (gap_at cs) rest)))) q
        ∙ either_equal (eqb c 46) (good any 1) (cond (eqb c 91) (class_at fold cs) rest) refl (either_equal (eqb c 91) (class_at fold cs) rest (bracket_equal fold cs) (other_equal c cs))
        ∙ sym (ap (λ (b : Bool). cond b (unequal_kind (gap_at cs)) false) q)

-- ---- what row 16 says of a place

abbrev outer_if : List ℕ → ℕ → Outer
outer_if s p = cond (unequal_at (drop p s)) (outer_at p) inner

outer-at : (fold : Bool) (s : List ℕ) (p : ℕ) (k : Model.Kind) (n : ℕ) → kind_at fold (drop p s) ≡ good k n → cond (unequal k) (outer_at p) inner ≡ outer_if s p
outer-at fold s p k n e = ap (λ (b : Bool). cond b (outer_at p) inner) (sym (ap unequal_kind e) ∙ unequal-kind fold (drop p s))

-- the last element met so far
abbrev last_from : Outer → List Spelled → Outer
last_from o [] = o
last_from o (s ∷ ss) = last_from (first_outer (s ∷ [])) ss

last-from : (ss : List Spelled) (s : Spelled) (o : Outer) → last_from o (s ∷ ss) ≡ last_outer (s ∷ ss)
last-from [] s o = refl
last-from (t ∷ ss) s o = last-from ss t (first_outer (s ∷ []))

module _ (fold : Bool) (s : List ℕ) where
  last-outer : (cs : List ℕ) (skip place p : ℕ) → drop place s ≡ cs → last_from (outer_if s p) (spelled_from fold skip place cs) ≡ outer_if s (last_place p (spelled_from fold skip place cs))
  last-outer [] skip place p e = refl
  last-outer (c ∷ cs) skip place p e = go skip (last-outer cs)
    where
      next : drop (suc place) s ≡ cs
      next = ap (λ (i : ℕ). drop i s) (sym (add-one place)) ∙ sym (drop-drop 1 place s) ∙ ap (drop 1) e

      go : (skip : ℕ) → ((skip place p : ℕ) → drop place s ≡ cs → last_from (outer_if s p) (spelled_from fold skip place cs) ≡ outer_if s (last_place p (spelled_from fold skip place cs)))
          → last_from (outer_if s p) (spelled_from fold skip place (c ∷ cs)) ≡ outer_if s (last_place p (spelled_from fold skip place (c ∷ cs)))
      go (suc k) ih = ih k (suc place) p next
      go zero ih = by_kind (kind_at fold (c ∷ cs)) refl
        where
          by_kind : (r : Model.ReadKind) → kind_at fold (c ∷ cs) ≡ r → last_from (outer_if s p) (spelled_from fold zero place (c ∷ cs)) ≡ outer_if s (last_place p (spelled_from fold zero place (c ∷ cs)))
          by_kind (bad n) q = let d : spelled_from fold zero place (c ∷ cs) ≡ [] = rw (q, spelled_from) in rw d
          by_kind (good k n) q =
              let o = often_after k (drop n (c ∷ cs)) in
              let rest = spelled_from fold (pred n + mark_bytes o) (suc place) cs in
              rw (spelled-good fold c cs place n k q) (ap (λ (x : Outer). last_from x rest) (outer-at fold s place k n (ap (kind_at fold) e ∙ q)) ∙ ih (pred n + mark_bytes o) (suc place) place next)

  pub outer-is : outer (spelled fold s) ≡ either_outer (outer_if s 0) (outer_if s (last_place 0 (spelled fold s)))
  outer-is = by_text s refl
    where
      none : spelled fold s ≡ [] → outer_if s 0 ≡ inner → outer (spelled fold s) ≡ either_outer (outer_if s 0) (outer_if s (last_place 0 (spelled fold s)))
      none d z = rw (d, z)

      some : (x : Spelled) (rest : List Spelled) → spelled fold s ≡ x ∷ rest → first_outer (x ∷ rest) ≡ outer_if s 0 → outer (spelled fold s) ≡ either_outer (outer_if s 0) (outer_if s (last_place 0 (spelled fold s)))
      some x rest d f =
          ap outer d
          ∙ ap₂ either_outer f (sym (last-from rest x (outer_if s 0)) ∙ sym (ap (last_from (outer_if s 0)) d) ∙ last-outer s 0 0 0 refl)

      by_text : (cs : List ℕ) → s ≡ cs → outer (spelled fold s) ≡ either_outer (outer_if s 0) (outer_if s (last_place 0 (spelled fold s)))
      by_text [] e = none (ap (spelled fold) e) (ap (λ (l : List ℕ). outer_if l 0) e)
      by_text (c ∷ cs) e = by_kind (kind_at fold (c ∷ cs)) refl
        where
          by_kind : (r : Model.ReadKind) → kind_at fold (c ∷ cs) ≡ r → outer (spelled fold s) ≡ either_outer (outer_if s 0) (outer_if s (last_place 0 (spelled fold s)))
          by_kind (bad n) q =
              let d : spelled_from fold zero 0 (c ∷ cs) ≡ [] = rw (q, spelled_from) in
              none (ap (spelled fold) e ∙ d) (ap (λ (b : Bool). cond b (outer_at 0) inner) (ap unequal_at e ∙ sym (unequal-kind fold (c ∷ cs)) ∙ ap unequal_kind q))
          by_kind (good k n) q = some _ _ (ap (spelled fold) e ∙ spelled-good fold c cs 0 n k q) (outer-at fold s 0 k n (ap (kind_at fold) e ∙ q))

-- ---- `prepare`

module _ (flag : ℕ) (s : List ℕ) where
  module _ (r : StoredRule) (rs : Stores flag s r) where
    by_outer : (o : Outer) → either_outer (outer_if s 0) (outer_if s r.last) ≡ o → parse (fold_flag flag) s ≡ or_outer rs.prepared.elements o
    by_outer o e =
        ap (outer_checked (fold_flag flag) s) rs.prepared.parses
        ∙ ap (or_outer rs.prepared.elements)
        (outer-is (fold_flag flag) s ∙ sym (ap (λ (i : ℕ). either_outer (outer_if s 0) (outer_if s i)) rs.last-is) ∙ e)

    refuses : (p : ℕ) → either_outer (outer_if s 0) (outer_if s r.last) ≡ outer_at p → (x : Refused) → x ≡ refused_at OuterGap p → RuleRefused flag s x
    refuses p e x ex = rw ex (record { is = by_outer (outer_at p) e })

    module _ (b : Bool) (eb : b ≡ unequal_at (drop 0 s)) where
      pub first-gap : b ≡ true → (x : Refused) → x ≡ refused_at OuterGap 0 → RuleRefused flag s x
      first-gap t x ex = refuses 0 (ap (λ (y : Bool). either_outer (cond y (outer_at 0) inner) (outer_if s r.last)) (sym eb ∙ t)) x ex

      module _ (f : b ≡ false) (d : Bool) (ed : d ≡ unequal_at (drop r.last s)) where
        both : (y : Bool) → d ≡ y → either_outer (outer_if s 0) (outer_if s r.last) ≡ cond y (outer_at r.last) inner
        both y t = ap₂ (λ (v w : Bool). either_outer (cond v (outer_at 0) inner) (cond w (outer_at r.last) inner)) (sym eb ∙ f) (sym ed ∙ t)

        pub last-gap : d ≡ true → (x : Refused) → x ≡ refused_at OuterGap r.last → RuleRefused flag s x
        last-gap t x ex = refuses r.last (both true t) x ex

        pub no_outer : d ≡ false → PreparedRule flag s r.prepared
        no_outer t = record { elements = rs.prepared.elements; parses = by_outer inner (both false t); is = rs.prepared.is; few = rs.prepared.few }
