-- Elements with their spelling: those of an accepted text are its elements, together they spell it, and they are read again from any text that has them. For any
-- limit of positions. Assumes nothing.
use mathlib.Core.Path.{◌≡◌, refl, sym, ap, ap₂, ◌∙◌}
use mathlib.Core.Bool.{Bool, true, false, cond}
use mathlib.Core.List.{List, [], ◌∷◌, ◌++◌, tail-eq_of_cons-eq}
use Prim.Native.Nat.{ℕ, zero, suc, pred, ◌+◌, ◌≤◌}
use native.Mathlib.Nat.{add-zero}
use native.Mathlib.Omega.{arith}
use borrow.Author.Tests.{le-leb}
use lib.Dec.{leb}
use lib.ListN.{length, take, drop, length-append, length-drop, take-append-drop}
use lib.Seq.{drop-nil, drop-append-le, length-take-le}
use Rattle.model.specs.RefusalNumbers.{too_many_positions}
use Rattle.model.specs.RuleText.{Kind, Often, once, Element, kind_positions, positions, size, ReadKind, bad, good, kind_at, often_at, often_after, mark_bytes}
use Rattle.model.specs.Spelling.{Spelled, spelled_from, text_by, elements_by}
use Rattle.model.specs.NumberedAnswers.{Parsed, refused, accepted, add_element, elements_from}
use Rattle.model.specs.Rewriter.{dots}
use Rattle.model.proofs.Accepted.{elements-bad, elements-over, elements-good, spelled-good, accepted_inj, not_refused, added, kind-count}
use Rattle.rule_spelling.proofs.OneElement.{kind_fits, kind_local, kind-once, often-fits, often_local}

-- ---- a list of elements with their spelling that is read from its text

pub record ReadsOne (fold : Bool) (s : Spelled) (rest : List ℕ) : Type 0 where
  pub count : ℕ
  pub is : kind_at fold (s.bytes ++ rest) ≡ good s.element.kind count
  pub often-is : often_after s.element.kind (drop count (s.bytes ++ rest)) ≡ s.element.often
  pub long : length s.bytes ≡ count + mark_bytes s.element.often

abbrev pub Reads : Bool → List Spelled → Type 0
Reads fold [] = Unit {0}
Reads fold (s ∷ ss) = ReadsOne fold s (text_by ss) × Reads fold ss

-- Such a text begins with no mark of how often.
reads-once : (fold : Bool) (ss : List Spelled) → Reads fold ss → often_at (text_by ss) ≡ once
reads-once fold [] r = refl
reads-once fold (s ∷ ss) r = kind-once fold (s.bytes ++ text_by ss) s.element.kind r.0.count r.0.is

-- What follows may be exchanged for anything that is no mark.
one_replaced : (fold : Bool) (s : Spelled) (t u : List ℕ) → often_at u ≡ once → ReadsOne fold s t → ReadsOne fold s u
one_replaced fold s t u e r =
    let n = r.count in
    let k = s.element.kind in
    let l = r.long in
    let within : n ≤ length s.bytes = omega arith in
    let ys = drop n s.bytes in
    let ly = length-drop n s.bytes in
    let ot : often_after k (ys ++ t) ≡ s.element.often = sym (ap (often_after k) (drop-append-le n s.bytes t within)) ∙ r.often-is in
    let m : length ys ≡ mark_bytes (often_after k (ys ++ t)) = let z = ap mark_bytes ot in omega arith in
    record {
      count = n;
      is = kind_local fold s.bytes t u k n r.is within;
      often-is = ap (often_after k) (drop-append-le n s.bytes u within) ∙ often_local k ys t u e m ∙ ot;
      long = r.long;
    }

pub reads_replaced : (fold : Bool) (ts us vs : List Spelled) → Reads fold (ts ++ us) → Reads fold vs → Reads fold (ts ++ vs)
reads_replaced fold [] us vs r q = q
reads_replaced fold (s ∷ ts) us vs r q =
    let rest = reads_replaced fold ts us vs r.1 q in
    (one_replaced fold s (text_by (ts ++ us)) (text_by (ts ++ vs)) (reads-once fold (ts ++ vs) rest) r.0, rest)

-- Dots before it.
pub dots_read : (fold : Bool) (n : ℕ) (ss : List Spelled) → Reads fold ss → Reads fold (dots n ++ ss)
dots_read fold zero ss r = r
dots_read fold (suc n) ss r =
    let rest = dots_read fold n ss r in
    (record { count = 1; is = refl; often-is = reads-once fold (dots n ++ ss) rest; long = refl }, rest)

-- ---- the elements of an accepted text

-- They are its elements, spell it, and are read again.
pub record SpelledIs (fold : Bool) (cs : List ℕ) (es : List Element) (ss : List Spelled) : Type 0 where
  pub elements : elements_by ss ≡ es
  pub text : text_by ss ≡ cs
  pub reads : Reads fold ss

cons_to : (e : Element) {xs fs es : List Element} → xs ≡ fs → e ∷ fs ≡ es → e ∷ xs ≡ es
cons_to e p q = ap (λ (l : List Element). e ∷ l) p ∙ q

module _ (most : ℕ) (fold : Bool) where
  pub spelled_is : (cs : List ℕ) (skip place used : ℕ) (es : List Element) → elements_from most fold skip place used cs ≡ accepted es → SpelledIs fold (drop skip cs) es (spelled_from fold skip place cs)
  spelled_is [] skip place used es e = record { elements = accepted_inj e; text = sym (drop-nil skip); reads = tt }
  spelled_is (c ∷ cs) (suc k) place used es e = spelled_is cs k (suc place) used es e
  spelled_is (c ∷ cs) zero place used es e = by_kind (kind_at fold (c ∷ cs)) refl (spelled_is cs)
    where
      by_kind : (r : ReadKind) → kind_at fold (c ∷ cs) ≡ r
          → ((skip place used : ℕ) (es : List Element) → elements_from most fold skip place used cs ≡ accepted es → SpelledIs fold (drop skip cs) es (spelled_from fold skip place cs))
          → SpelledIs fold (c ∷ cs) es (spelled_from fold zero place (c ∷ cs))
      by_kind (bad n) q ih = not_refused (sym (elements-bad most fold c cs place used n q) ∙ e)
      by_kind (good k n) q ih = by_room (leb (used + size k) most) refl
        where
          by_room : (b : Bool) → leb (used + size k) most ≡ b → SpelledIs fold (c ∷ cs) es (spelled_from fold zero place (c ∷ cs))
          by_room false r = not_refused (sym (elements-over most fold c cs place used n k q r) ∙ e)
          by_room true r =
              let o = often_after k (drop n (c ∷ cs)) in
              let skip = pred n + mark_bytes o in
              let a = added (record { kind = k; often = o }) (elements_from most fold skip (suc place) (used + size k) cs) es (sym (elements-good most fold c cs place used n k q r) ∙ e) in
              let rest = ih skip (suc place) (used + size k) a.0 a.1 in
              let f = kind_fits fold (c ∷ cs) k n q in
              let f₀ = f.0 in
              let f₁ = f.1 in
              let m = often-fits k (drop n (c ∷ cs)) in
              let ld = length-drop n (c ∷ cs) in
              let z : n + mark_bytes o ≡ suc skip = omega arith in
              let whole : take (n + mark_bytes o) (c ∷ cs) ++ text_by (spelled_from fold skip (suc place) cs) ≡ c ∷ cs =
              ap₂ (λ (i : ℕ) (l : List ℕ). take i (c ∷ cs) ++ l) z rest.text ∙ take-append-drop (suc skip) (c ∷ cs) in
              rw (spelled-good fold c cs place n k q)
              (record {
                elements = cons_to (record { kind = k; often = o }) rest.elements a.2;
                text = whole;
                reads = (
                  record {
                    count = n;
                    is = ap (kind_at fold) whole ∙ q;
                    often-is = ap (λ (l : List ℕ). often_after k (drop n l)) whole;
                    long = length-take-le (n + mark_bytes o) (c ∷ cs) (omega arith);
                  },
                  rest.reads,
                );
              })

-- ---- they are accepted again

skip_all : (most : ℕ) (fold : Bool) (bs rest : List ℕ) (place used : ℕ) → elements_from most fold (length bs) place used (bs ++ rest) ≡ elements_from most fold 0 (place + length bs) used rest
skip_all most fold [] rest place used = ap (λ (p : ℕ). elements_from most fold 0 p used rest) (sym (add-zero place))
skip_all most fold (b ∷ bs) rest place used =
    let z : suc place + length bs ≡ place + suc (length bs) = omega arith in
    skip_all most fold bs rest (suc place) used ∙ ap (λ (p : ℕ). elements_from most fold 0 p used rest) z

-- One of them at the front is added to what is read after it, or takes the positions past the limit.
pub one_read : (most : ℕ) (fold : Bool) (s : Spelled) (rest : List ℕ) (place used : ℕ) → ReadsOne fold s rest
    → elements_from most fold 0 place used (s.bytes ++ rest)
    ≡ cond (leb (used + size s.element.kind) most)
    (add_element s.element (elements_from most fold 0 (place + length s.bytes) (used + size s.element.kind) rest))
    (refused too_many_positions place)
one_read most fold s rest place used one = go s.bytes refl (leb (used + size k) most) refl
  where
    k : Kind
    k = s.element.kind

    o : Often
    o = s.element.often

    n : ℕ
    n = one.count

    go : (bs : List ℕ) → s.bytes ≡ bs → (room : Bool) → leb (used + size k) most ≡ room
        → elements_from most fold 0 place used (s.bytes ++ rest)
        ≡ cond room (add_element s.element (elements_from most fold 0 (place + length s.bytes) (used + size k) rest)) (refused too_many_positions place)
    go [] e room t =
        let f = (kind_fits fold (s.bytes ++ rest) k n one.is).0 in
        let w = one.long in
        let z = ap length e in
        absurd (omega arith)
    go (c ∷ bs) e room t =
        let cs = bs ++ rest in
        let whole : s.bytes ++ rest ≡ c ∷ cs = ap (λ (x : List ℕ). x ++ rest) e in
        let q : kind_at fold (c ∷ cs) ≡ good k n = sym (ap (kind_at fold) whole) ∙ one.is in
        by_room c cs bs whole e q room t
      where
        by_room : (c : ℕ) (cs bs : List ℕ) → s.bytes ++ rest ≡ c ∷ cs → s.bytes ≡ c ∷ bs → kind_at fold (c ∷ cs) ≡ good k n → (room : Bool) → leb (used + size k) most ≡ room
            → elements_from most fold 0 place used (s.bytes ++ rest)
            ≡ cond room (add_element s.element (elements_from most fold 0 (place + length s.bytes) (used + size k) rest)) (refused too_many_positions place)
        by_room c cs bs whole e q false t = ap (elements_from most fold 0 place used) whole ∙ elements-over most fold c cs place used n k q t
        by_room c cs bs whole e q true t =
            let f = (kind_fits fold (s.bytes ++ rest) k n one.is).0 in
            let w = one.long in
            let z = ap length e in
            let w₂ : often_after k (drop n (c ∷ cs)) ≡ o = sym (ap (λ (x : List ℕ). often_after k (drop n x)) whole) ∙ one.often-is in
            let sk : pred n + mark_bytes o ≡ length bs = omega arith in
            let tail : cs ≡ bs ++ rest = tail-eq_of_cons-eq (sym whole ∙ ap (λ (x : List ℕ). x ++ rest) e) in
            let there : suc place + length bs ≡ place + length s.bytes = omega arith in
            ap (elements_from most fold 0 place used) whole
            ∙ elements-good most fold c cs place used n k q t
            ∙ ap (λ (x : Often). add_element (record { kind = k; often = x }) (elements_from most fold (pred n + mark_bytes x) (suc place) (used + size k) cs)) w₂
            ∙ ap₂ (λ (i : ℕ) (l : List ℕ). add_element s.element (elements_from most fold i (suc place) (used + size k) l)) sk tail
            ∙ ap (add_element s.element) (skip_all most fold bs rest (suc place) (used + size k) ∙ ap (λ (p : ℕ). elements_from most fold 0 p (used + size k) rest) there)

pub reads-accepted : (most : ℕ) (fold : Bool) (ss : List Spelled) (place used : ℕ) → Reads fold ss → used + length (positions fold (elements_by ss)) ≤ most
    → elements_from most fold 0 place used (text_by ss) ≡ accepted (elements_by ss)
reads-accepted most fold [] place used r l = refl
reads-accepted most fold (s ∷ ss) place used r l =
    let k = s.element.kind in
    let one = r.0 in
    let count = kind-count fold (s.bytes ++ text_by ss) k one.count s.element.often one.is in
    let room : used + size k + length (positions fold (elements_by ss)) ≤ most = omega (arith, length-append (kind_positions fold k s.element.often) (positions fold (elements_by ss))) in
    one_read most fold s (text_by ss) place used one
    ∙ ap₂ (λ (b : Bool) (p : Parsed). cond b (add_element s.element p) (refused too_many_positions place)) (le-leb (used + size k) most (omega arith))
    (reads-accepted most fold ss (place + length s.bytes) (used + size k) r.1 room)
