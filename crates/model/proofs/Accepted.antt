-- What an accepted rule is known to be: it has a position and no more than the limit, each admits some byte, and some are not optional. For any limits of
-- a rule's length and positions. Assumes nothing.
use mathlib.Core.Path.{◌≡◌, refl, sym, ap, subst, ◌∙◌}
use mathlib.Core.Bool.{Bool, true, false, not, ◌&&◌, ◌||◌}
use mathlib.Core.List.{List, [], ◌∷◌}
use Prim.Native.Nat.{ℕ, zero, suc, pred, ◌+◌, ◌-◌, ◌≤◌}
use native.Mathlib.Omega.{arith}
use lib.Dec.{T, leb, ltb, eqb, leb→le, lt→ltb, eqb_refl}
use borrow.Author.Tests.{ltb-false}
use lib.ListN.{length, take, drop, replicate, length-append, length-replicate}
use Rattle.model.specs.RefusalNumbers.{too_many_positions}
use Rattle.model.specs.Ascii.{byte_of, ascii}
use Rattle.model.specs.Occurrence.{Position, all, shortest, one_if}
use Rattle.model.specs.RuleText.{rule_limit, position_limit, Kind, byte, any, class, gap, Often, once, optional, Element, kind_set, is_byte, other_case, position, kind_positions, positions, size, ReadKind, bad, good, some_below, Items, items, faulty, items_from, class_of, class_at, gap_at, bound_at, starts_with, escape_at, kind_at, often_after, mark_bytes, may_escape, one_of}
use Rattle.model.specs.Spelling.{spelled_from, spelled, Outer, inner, outer_at, outer}
use Rattle.model.specs.NumberedAnswers.{Parsed, refused, accepted, add_element, elements_from, or_empty, parse_within, parse_stored, or_outer, outer_checked, parse, positions_by, rule_positions}
use Rattle.model.specs.WindowSearch.{EachSet, HasByte, Inhabited}
use Rattle.model.proofs.Below.{some_into}
use Rattle.model.proofs.Truth.{and_intro, and_left, and_right, or_left, T-to, T_false, branch}
use Rattle.model.proofs.Law.{each_append}

-- ---- a kind that was read has some byte, if the text is one of bytes, and a gap has its bounds in order

abbrev KindOk : Type 0 → Bool → Kind → Type 0
KindOk B fold k = (B → (c : ℕ) × T (is_byte c && kind_set fold k c)) × ((o : Often) → length (kind_positions fold k o) ≡ size k)

some_byte : (s : ℕ → Bool) → T (some_below s 256) → (c : ℕ) × T (is_byte c && s c)
some_byte s t = let r = some_into s 256 t in (r.0, and_intro (is_byte r.0) (s r.0) (lt→ltb r.0 256 r.1) r.2)

pub good-kind : {k k' : Kind} {n n' : ℕ} → good k n ≡ good k' n' → k ≡ k'
good-kind e = cc

pub not_bad : {A : Type 0} {m : ℕ} {k : Kind} {n : ℕ} → bad m ≡ good k n → A
not_bad e = let z : ◌≡◌ {A = ℕ} 0 1 = cc in absurd (omega arith)

gap_length : (fold : Bool) (a b : ℕ) (o : Often) → a ≤ b → length (kind_positions fold (gap a b) o) ≡ b
gap_length fold a b o h =
    let p = position fold any optional in
    let q = position fold any once in
    omega (arith, length-append (replicate (b - a) p) (replicate a q), length-replicate (b - a) p, length-replicate a q)

module _ (B : Type 0) (fold : Bool) where
  -- A kind for which `good` was found in another way.
  is-kind : {k k' : Kind} {n n' : ℕ} → KindOk B fold k → good k n ≡ good k' n' → KindOk B fold k'
  is-kind h e = subst (λ (q : Kind). KindOk B fold q) (good-kind e) h

  byte_ok : (b : ℕ) → (B → T (is_byte b)) → KindOk B fold (byte b)
  byte_ok b f = (λ h. (b, and_intro (is_byte b) (eqb b b || fold && eqb (other_case b) b) (f h) (or_left (eqb b b) (fold && eqb (other_case b) b) (eqb_refl b))), λ o. refl)

  class_ok : (turned : Bool) (is : Items) (k : Kind) (n : ℕ) → class_of fold turned is ≡ good k n → KindOk B fold k
  class_ok turned faulty k n e = not_bad e
  class_ok turned (items [] m) k n e = not_bad e
  class_ok turned (items (r ∷ rs) m) k n e =
      branch (some_below (kind_set fold (class turned (r ∷ rs))) 256) e
      (λ t q. is-kind {k = class turned (r ∷ rs)} (λ h. some_byte (kind_set fold (class turned (r ∷ rs))) t, λ o. refl) q)
      (λ t q. not_bad q)

  class_at_ok : (cs : List ℕ) (k : Kind) (n : ℕ) → class_at fold cs ≡ good k n → KindOk B fold k
  class_at_ok [] k n e = not_bad e
  class_at_ok (c ∷ cs) k n e =
      branch (eqb c (byte_of "^")) e (λ t q. class_ok true (items_from 0 2 cs) k n q) (λ t q. class_ok false (items_from 0 1 (c ∷ cs)) k n q)

  gap_at_ok : (cs : List ℕ) (k : Kind) (n : ℕ) → gap_at cs ≡ good k n → KindOk B fold k
  gap_at_ok cs k n e =
      let a = bound_at cs in
      let after_a = drop a.bytes cs in
      let b = bound_at (drop 1 after_a) in
      let after-b = drop (1 + b.bytes) after_a in
      let form = leb 1 a.bytes && starts_with (byte_of ",") after_a && leb 1 b.bytes && starts_with (byte_of "}") after-b in
      let order = leb a.value b.value in
      let some = leb 1 b.value in
      branch (form && order && some) e
      (λ t q.
      is-kind {k = gap a.value b.value}
      (λ h. (0, tt), λ o. gap_length fold a.value b.value o (leb→le a.value b.value (and_right form order (and_left (form && order) some t))))
      q)
      (λ t q. not_bad q)

  escape_at_ok : (cs : List ℕ) → (B → T (all is_byte cs)) → (k : Kind) (n : ℕ) → escape_at cs ≡ good k n → KindOk B fold k
  escape_at_ok [] f k n e = not_bad e
  escape_at_ok (c ∷ cs) f k n e = branch (may_escape c) e (λ t q. is-kind (byte_ok c (λ h. and_left (is_byte c) (all is_byte cs) (f h))) q) (λ t q. not_bad q)

  kind_at_by : (cs : List ℕ) → (B → T (all is_byte cs)) → (k : Kind) (n : ℕ) → kind_at fold cs ≡ good k n → KindOk B fold k
  kind_at_by [] f k n e = not_bad e
  kind_at_by (c ∷ cs) f k n e =
      branch (eqb c (byte_of ".")) e (λ t q. is-kind {k = any} (λ h. (0, tt), λ o. refl) q) λ t e.
      branch (eqb c (byte_of "[")) e (λ t q. class_at_ok cs k n q) λ t e.
      branch (eqb c (byte_of "{")) e (λ t q. gap_at_ok cs k n q) λ t e.
      branch (eqb c (byte_of "\\")) e (λ t q. escape_at_ok cs (λ h. and_right (is_byte c) (all is_byte cs) (f h)) k n q) λ t e.
      branch (one_of (ascii "?+*") c) e (λ t q. not_bad q) λ t e.
      branch (one_of (ascii "]}") c) e (λ t q. not_bad q) λ t e.
      is-kind (byte_ok c (λ h. and_left (is_byte c) (all is_byte cs) (f h))) e

kind-some : (fold : Bool) (cs : List ℕ) → T (all is_byte cs) → (k : Kind) (n : ℕ) → kind_at fold cs ≡ good k n → (c : ℕ) × T (is_byte c && kind_set fold k c)
kind-some fold cs bytes k n e = (kind_at_by (T (all is_byte cs)) fold cs (λ h. h) k n e).0 bytes

-- An element that was read makes as many positions as its size says.
pub kind-count : (fold : Bool) (cs : List ℕ) (k : Kind) (n : ℕ) (o : Often) → kind_at fold cs ≡ good k n → length (kind_positions fold k o) ≡ size k
kind-count fold cs k n o e = (kind_at_by (T (all is_byte cs)) fold cs (λ h. h) k n e).1 o

-- ---- its positions

module _ (P : (ℕ → Bool) → Type 0) where
  pub each-replicate : (n : ℕ) (p : Position) → P p.set → EachSet P (replicate n p)
  each-replicate zero p h = tt
  each-replicate (suc n) p h = (h, each-replicate n p h)

  pub kind-each : (fold : Bool) (k : Kind) (o : Often) → P (λ c. is_byte c && kind_set fold k c) → EachSet P (kind_positions fold k o)
  kind-each fold (byte b) o h = (h, tt)
  kind-each fold any o h = (h, tt)
  kind-each fold (class t rs) o h = (h, tt)
  kind-each fold (gap a b) o h =
      each_append P (replicate (b - a) (position fold any optional)) (replicate a (position fold any once))
      (each-replicate (b - a) (position fold any optional) h) (each-replicate a (position fold any once) h)

-- ---- the elements

pub record ElementsOk (most : ℕ) (fold : Bool) (used : ℕ) (es : List Element) : Type 0 where
  pub inhabited : Inhabited (positions fold es)
  pub few : used + length (positions fold es) ≤ most

pub accepted_inj : {es fs : List Element} → accepted es ≡ accepted fs → es ≡ fs
accepted_inj e = cc

pub not_refused : {A : Type 0} {m p : ℕ} {es : List Element} → refused m p ≡ accepted es → A
not_refused e = let z : ◌≡◌ {A = ℕ} 0 1 = cc in absurd (omega arith)

pub elements-bad : (most : ℕ) (fold : Bool) (c : ℕ) (cs : List ℕ) (place used n : ℕ) → kind_at fold (c ∷ cs) ≡ bad n → elements_from most fold zero place used (c ∷ cs) ≡ refused n place
elements-bad most fold c cs place used n q = rw (q, elements_from)

pub elements-over : (most : ℕ) (fold : Bool) (c : ℕ) (cs : List ℕ) (place used n : ℕ) (k : Kind) → kind_at fold (c ∷ cs) ≡ good k n → leb (used + size k) most ≡ false
    → elements_from most fold zero place used (c ∷ cs) ≡ refused too_many_positions place
elements-over most fold c cs place used n k q r = rw (q, r, elements_from)

pub elements-good : (most : ℕ) (fold : Bool) (c : ℕ) (cs : List ℕ) (place used n : ℕ) (k : Kind) → kind_at fold (c ∷ cs) ≡ good k n → leb (used + size k) most ≡ true
    → elements_from most fold zero place used (c ∷ cs)
    ≡ add_element (record { kind = k; often = often_after k (drop n (c ∷ cs)) })
    (elements_from most fold (pred n + mark_bytes (often_after k (drop n (c ∷ cs)))) (suc place) (used + size k) cs)
elements-good most fold c cs place used n k q r = rw (q, r, elements_from)

-- The same element with its spelling.
pub spelled-good : (fold : Bool) (c : ℕ) (cs : List ℕ) (place n : ℕ) (k : Kind) → kind_at fold (c ∷ cs) ≡ good k n
    → spelled_from fold zero place (c ∷ cs)
    ≡ record { element = record { kind = k; often = often_after k (drop n (c ∷ cs)) }; place = place; bytes = take (n + mark_bytes (often_after k (drop n (c ∷ cs)))) (c ∷ cs) }
    ∷ spelled_from fold (pred n + mark_bytes (often_after k (drop n (c ∷ cs)))) (suc place) cs
spelled-good fold c cs place n k q = rw (q, spelled_from)

pub added : (e : Element) (p : Parsed) (es : List Element) → add_element e p ≡ accepted es → (fs : List Element) × (p ≡ accepted fs) × (e ∷ fs ≡ es)
added e (refused n q) es h = not_refused h
added e (accepted fs) es h = (fs, refl, accepted_inj h)

pub elements_ok : (most : ℕ) (fold : Bool) (cs : List ℕ) → T (all is_byte cs) → (skip place used : ℕ) (es : List Element)
    → used ≤ most → elements_from most fold skip place used cs ≡ accepted es → ElementsOk most fold used es
elements_ok most fold [] bytes skip place used es h e =
    subst (λ (l : List Element). ElementsOk most fold used l) (accepted_inj e) (record { inhabited = tt; few = omega arith })
elements_ok most fold (c ∷ cs) bytes (suc k) place used es h e = elements_ok most fold cs (and_right (is_byte c) (all is_byte cs) bytes) k (suc place) used es h e
elements_ok most fold (c ∷ cs) bytes zero place used es h e = by_kind (kind_at fold (c ∷ cs)) refl (elements_ok most fold cs (and_right (is_byte c) (all is_byte cs) bytes))
  where
    by_kind : (r : ReadKind) → kind_at fold (c ∷ cs) ≡ r
        → ((skip place used : ℕ) (es : List Element) → used ≤ most → elements_from most fold skip place used cs ≡ accepted es → ElementsOk most fold used es)
        → ElementsOk most fold used es
    by_kind (bad n) q ih = not_refused (sym (elements-bad most fold c cs place used n q) ∙ e)
    by_kind (good k n) q ih = by_room (leb (used + size k) most) refl
      where
        by_room : (b : Bool) → leb (used + size k) most ≡ b → ElementsOk most fold used es
        by_room false r = not_refused (sym (elements-over most fold c cs place used n k q r) ∙ e)
        by_room true r =
            let o = often_after k (drop n (c ∷ cs)) in
            let room : used + size k ≤ most = leb→le (used + size k) most (T-to (sym r) tt) in
            let a =
            added (record { kind = k; often = o }) (elements_from most fold (pred n + mark_bytes o) (suc place) (used + size k) cs) es
            (sym (elements-good most fold c cs place used n k q r) ∙ e) in
            let fs = a.0 in
            let rest = ih (pred n + mark_bytes o) (suc place) (used + size k) fs room a.1 in
            let more = rest.few in
            let whole : ElementsOk most fold used (record { kind = k; often = o } ∷ fs) = record {
              inhabited = each_append HasByte (kind_positions fold k o) (positions fold fs) (kind-each HasByte fold k o (kind-some fold (c ∷ cs) bytes k n q)) rest.inhabited;
              few = omega (arith, length-append (kind_positions fold k o) (positions fold fs), kind-count fold (c ∷ cs) k n o q);
            } in
            subst (λ (l : List Element). ElementsOk most fold used l) a.2 whole

-- ---- the rule

pub record RuleOk (most : ℕ) (ps : List Position) : Type 0 where
  pub inhabited : Inhabited ps
  pub some : 1 ≤ length ps
  pub few : length ps ≤ most
  pub not_empty : 1 ≤ shortest ps

pub shortest-length : (ps : List Position) → shortest ps ≤ length ps
shortest-length [] = omega arith
shortest-length (p ∷ ps) = go (not p.optional) (shortest-length ps)
  where
    go : (b : Bool) → shortest ps ≤ length ps → one_if b + shortest ps ≤ suc (length ps)
    go true h = omega arith
    go false h = omega arith

-- A rule that no row refuses is no longer than the limit, has been read to its end, and some position of it is not optional.
pub record ParsedOk (longest most : ℕ) (fold : Bool) (rule : List ℕ) (es : List Element) : Type 0 where
  pub short : length rule ≤ longest
  pub reads : elements_from most fold 0 0 0 rule ≡ accepted es
  pub not_empty : 1 ≤ shortest (positions fold es)

pub parsed_ok : (longest most : ℕ) (fold : Bool) (rule : List ℕ) (es : List Element) → parse_within longest most fold rule ≡ accepted es → ParsedOk longest most fold rule es
parsed_ok longest most fold rule es e =
    branch (eqb (length rule) 0) e (λ t q. not_refused q) λ t e.
    branch (ltb longest (length rule)) e (λ t q. not_refused q) λ t e.
    go (ltb-false longest (length rule) (T_false (ltb longest (length rule)) (not_T (ltb longest (length rule)) t))) (elements_from most fold 0 0 0 rule) refl e
  where
    not_T : (b : Bool) → T (not b) → T b → ⊥
    not_T true t u = t
    not_T false t u = u

    some : (k : ℕ) → T (not (eqb k 0)) → 1 ≤ k
    some zero t = absurd t
    some (suc k) t = omega arith

    go : length rule ≤ longest → (p : Parsed) → elements_from most fold 0 0 0 rule ≡ p → or_empty fold rule p ≡ accepted es → ParsedOk longest most fold rule es
    go l (refused n p) q e = not_refused e
    go l (accepted fs) q e =
        branch (eqb (shortest (positions fold fs)) 0) e (λ t q. not_refused q) λ t r.
        record { short = l; reads = q ∙ r; not_empty = subst (λ (l : List Element). 1 ≤ shortest (positions fold l)) (accepted_inj r) (some (shortest (positions fold fs)) t) }

pub accepted_ok : (longest most : ℕ) (fold : Bool) (rule : List ℕ) (es : List Element) → T (all is_byte rule) → parse_within longest most fold rule ≡ accepted es → RuleOk most (positions fold es)
accepted_ok longest most fold rule es bytes e =
    let r = parsed_ok longest most fold rule es e in
    let ok = elements_ok most fold rule bytes 0 0 0 es (omega arith) r.reads in
    let n = ok.few in
    let s = r.not_empty in
    let l = shortest-length (positions fold es) in
    record { inhabited = ok.inhabited; some = omega arith; few = omega arith; not_empty = omega arith }

-- A new rule is a stored rule without an outer gap of unequal bounds.
pub stored-accepted : (fold : Bool) (rule : List ℕ) (es : List Element) → parse fold rule ≡ accepted es → (parse_stored fold rule ≡ accepted es) × (outer (spelled fold rule) ≡ inner)
stored-accepted fold rule es e = go (parse_stored fold rule) refl e
  where
    by_outer : (fs : List Element) (o : Outer) → or_outer fs o ≡ accepted es → (fs ≡ es) × (o ≡ inner)
    by_outer fs inner e = (accepted_inj e, refl)
    by_outer fs (outer_at p) e = not_refused e

    go : (p : Parsed) → parse_stored fold rule ≡ p → outer_checked fold rule p ≡ accepted es → (parse_stored fold rule ≡ accepted es) × (outer (spelled fold rule) ≡ inner)
    go (refused n p) q e = not_refused e
    go (accepted fs) q e = let r = by_outer fs (outer (spelled fold rule)) e in (q ∙ ap accepted r.0, r.1)

pub rule_ok : (fold : Bool) (rule : List ℕ) (es : List Element) → T (all is_byte rule) → parse fold rule ≡ accepted es → RuleOk position_limit (rule_positions fold rule)
rule_ok fold rule es bytes e =
    subst (λ (p : Parsed). RuleOk position_limit (positions_by fold p)) (sym e) (accepted_ok rule_limit position_limit fold rule es bytes (stored-accepted fold rule es e).0)
