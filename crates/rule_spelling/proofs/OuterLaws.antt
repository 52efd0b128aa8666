-- Note 10's steps on elements: a front step keeps the ends, a back step the starts, whatever codes the plan is read with. What all of them leave has no outer gap
-- of unequal bounds, and elements without one are left as they were. Assumes nothing.
use mathlib.Core.Path.{◌≡◌, refl, sym, ap, ap₂, ◌∙◌}
use mathlib.Core.Bool.{Bool, true, false}
use mathlib.Core.List.{List, [], ◌∷◌, ◌++◌, append_assoc, append-nil, reverse, reverse-cons, reverse-append, reverse-reverse}
use Prim.Native.Nat.{ℕ, zero, suc, ◌-◌}
use native.Mathlib.Omega.{arith}
use lib.Dec.{ltb}
use lib.ListN.{replicate}
use Rattle.model.specs.Occurrence.{Position, ends, starts}
use Rattle.model.specs.RuleText.{Kind, byte, any, class, gap, once, optional, Element, position, kind_positions, positions}
use Rattle.model.specs.Codes.{Code, fitting_one, fitting}
use Rattle.model.specs.Spelling.{Spelled, elements_by, Outer, inner, outer_at, first_outer, last_outer, either_outer, outer}
use Rattle.model.specs.Rewriter.{dot, dots, dotted, kind_dotted, from_front, from_back}
use Rattle.model.proofs.Accepted.{each-replicate}
use Rattle.model.proofs.Fitting.{fitting-append, fitting-replicate}
use Rattle.rule_spelling.proofs.MissedPositions.{ends_same, starts-same, optional-replicate, front_missed, Within, back_missed}

-- ---- the positions of elements that are joined

pub elements-append : (ss ts : List Spelled) → elements_by (ss ++ ts) ≡ elements_by ss ++ elements_by ts
elements-append [] ts = refl
elements-append (s ∷ ss) ts = ap (λ (l : List Element). s.element ∷ l) (elements-append ss ts)

pub positions-append : (fold : Bool) (es fs : List Element) → positions fold (es ++ fs) ≡ positions fold es ++ positions fold fs
positions-append fold [] fs = refl
positions-append fold (e ∷ es) fs =
    ap (λ (l : List Position). kind_positions fold e.kind e.often ++ l) (positions-append fold es fs)
    ∙ sym (append_assoc (kind_positions fold e.kind e.often) (positions fold es) (positions fold fs))

pub spelled-positions : (fold : Bool) (ss ts : List Spelled) → positions fold (elements_by (ss ++ ts)) ≡ positions fold (elements_by ss) ++ positions fold (elements_by ts)
spelled-positions fold ss ts = ap (positions fold) (elements-append ss ts) ∙ positions-append fold (elements_by ss) (elements_by ts)

pub dots-positions : (fold : Bool) (a : ℕ) → positions fold (elements_by (dots a)) ≡ replicate a (position fold any once)
dots-positions fold zero = refl
dots-positions fold (suc a) = ap (λ (l : List Position). position fold any once ∷ l) (dots-positions fold a)

-- ---- dots, read backwards

dots_snoc : (n : ℕ) → dots n ++ (dot ∷ []) ≡ dot ∷ dots n
dots_snoc zero = refl
dots_snoc (suc n) = ap (λ (l : List Spelled). dot ∷ l) (dots_snoc n)

pub dots-reverse : (n : ℕ) → reverse (dots n) ≡ dots n
dots-reverse zero = refl
dots-reverse (suc n) = reverse-cons dot (dots n) ∙ ap (λ (l : List Spelled). l ++ (dot ∷ [])) (dots-reverse n) ∙ dots_snoc n

-- ---- the steps

module _ (ks : List Code) (fold : Bool) where
  -- the positions of elements, read by fit
  abbrev pub at : List Spelled → List Position
  at ss = fitting ks (positions fold (elements_by ss))

  at-append : (ss ts : List Spelled) → at (ss ++ ts) ≡ at ss ++ at ts
  at-append ss ts = ap (fitting ks) (spelled-positions fold ss ts) ∙ fitting-append ks (positions fold (elements_by ss)) (positions fold (elements_by ts))

  -- what a gap may miss, and what it must have
  abbrev may : ℕ → List Position
  may n = replicate n (fitting_one ks (position fold any optional))

  abbrev must : ℕ → List Position
  must n = replicate n (fitting_one ks (position fold any once))

  at-dots : (a : ℕ) → at (dots a) ≡ must a
  at-dots a = ap (fitting ks) (dots-positions fold a) ∙ fitting-replicate ks a (position fold any once)

  at_gap : (s : Spelled) (a b : ℕ) → s.element.kind ≡ gap a b → at (s ∷ []) ≡ may (b - a) ++ must a
  at_gap s a b e =
      ap (fitting ks) (append-nil (kind_positions fold s.element.kind s.element.often))
      ∙ ap (λ (k : Kind). fitting ks (kind_positions fold k s.element.often)) e
      ∙ fitting-append ks (replicate (b - a) (position fold any optional)) (replicate a (position fold any once))
      ∙ ap₂ (λ (p q : List Position). p ++ q) (fitting-replicate ks (b - a) (position fold any optional)) (fitting-replicate ks a (position fold any once))

  -- "Each front step keeps the list of ends"
  pub front_step : (s : Spelled) (ss : List Spelled) (a b : ℕ) → s.element.kind ≡ gap a b → (text : List ℕ) → ends (at (dots a ++ ss)) text ≡ ends (at (s ∷ ss)) text
  front_step s ss a b e text =
      let whole : at (s ∷ ss) ≡ may (b - a) ++ (must a ++ at ss) = at-append (s ∷ []) ss ∙ ap (λ (l : List Position). l ++ at ss) (at_gap s a b e) ∙ append_assoc (may (b - a)) (must a) (at ss) in
      let left : at (dots a ++ ss) ≡ must a ++ at ss = at-append (dots a) ss ∙ ap (λ (l : List Position). l ++ at ss) (at-dots a) in
      ap (λ (l : List Position). ends l text) left
      ∙ sym (ends_same (may (b - a) ++ (must a ++ at ss)) (must a ++ at ss) text (front_missed (may (b - a)) (must a ++ at ss) (optional-replicate (b - a) _ tt) text))
      ∙ sym (ap (λ (l : List Position). ends l text) whole)

  -- "each back step the list of starts"
  pub back_step : (ss : List Spelled) (s : Spelled) (a b : ℕ) → s.element.kind ≡ gap a b → (text : List ℕ) → starts (at (ss ++ dots a)) text ≡ starts (at (ss ++ (s ∷ []))) text
  back_step ss s a b e text =
      let r = fitting_one ks (position fold any once) in
      let whole : at (ss ++ (s ∷ [])) ≡ at ss ++ (may (b - a) ++ must a) = at-append ss (s ∷ []) ∙ ap (λ (l : List Position). at ss ++ l) (at_gap s a b e) in
      let left : at (ss ++ dots a) ≡ at ss ++ must a = at-append ss (dots a) ∙ ap (λ (l : List Position). at ss ++ l) (at-dots a) in
      ap (λ (l : List Position). starts l text) left
      ∙ sym (starts-same (at ss ++ (may (b - a) ++ must a)) (at ss ++ must a) text (back_missed r refl a (may (b - a)) (optional-replicate (b - a) _ tt) (each-replicate (Within r.set) (b - a) (fitting_one ks (position fold any optional)) (λ c h. h)) (at ss) text))
      ∙ sym (ap (λ (l : List Position). starts l text) whole)

  -- ---- all of them

  pub front-keeps-ends : (ss : List Spelled) (text : List ℕ) → ends (at (from_front ss)) text ≡ ends (at ss) text
  front-keeps-ends [] text = refl
  front-keeps-ends (s ∷ ss) text = by_kind s.element.kind refl (front-keeps-ends ss text)
    where
      by_kind : (k : Kind) → s.element.kind ≡ k → ends (at (from_front ss)) text ≡ ends (at ss) text → ends (at (kind_dotted k ss (from_front ss) (s ∷ ss))) text ≡ ends (at (s ∷ ss)) text
      by_kind (byte b) e ih = refl
      by_kind any e ih = refl
      by_kind (class t rs) e ih = refl
      by_kind (gap a b) e ih = by_test a (ltb a b) e
        where
          by_test : (n : ℕ) (x : Bool) → s.element.kind ≡ gap n b → ends (at (dotted n b x ss (from_front ss) (s ∷ ss))) text ≡ ends (at (s ∷ ss)) text
          by_test n false e = refl
          by_test zero true e = ih ∙ front_step s ss 0 b e text
          by_test (suc n) true e = front_step s ss (suc n) b e text

  -- read from the back
  back-keeps : (rs : List Spelled) (text : List ℕ) → starts (at (reverse (from_front rs))) text ≡ starts (at (reverse rs)) text
  back-keeps [] text = refl
  back-keeps (s ∷ rs) text = by_kind s.element.kind refl (back-keeps rs text)
    where
      by_kind : (k : Kind) → s.element.kind ≡ k → starts (at (reverse (from_front rs))) text ≡ starts (at (reverse rs)) text
          → starts (at (reverse (kind_dotted k rs (from_front rs) (s ∷ rs)))) text ≡ starts (at (reverse (s ∷ rs))) text
      by_kind (byte b) e ih = refl
      by_kind any e ih = refl
      by_kind (class t xs) e ih = refl
      by_kind (gap a b) e ih = by_test a (ltb a b) e
        where
          last : starts (at (reverse rs ++ (s ∷ []))) text ≡ starts (at (reverse (s ∷ rs))) text
          last = sym (ap (λ (l : List Spelled). starts (at l) text) (reverse-cons s rs))

          by_test : (n : ℕ) (x : Bool) → s.element.kind ≡ gap n b → starts (at (reverse (dotted n b x rs (from_front rs) (s ∷ rs)))) text ≡ starts (at (reverse (s ∷ rs))) text
          by_test n false e = refl
          by_test zero true e = ih ∙ sym (ap (λ (l : List Spelled). starts (at l) text) (append-nil (reverse rs))) ∙ back_step (reverse rs) s 0 b e text ∙ last
          by_test (suc n) true e =
              ap (λ (l : List Spelled). starts (at l) text) (reverse-append (dots (suc n)) rs ∙ ap (λ (l : List Spelled). reverse rs ++ l) (dots-reverse (suc n)))
              ∙ back_step (reverse rs) s (suc n) b e text ∙ last

  pub back-keeps-starts : (ss : List Spelled) (text : List ℕ) → starts (at (from_back ss)) text ≡ starts (at ss) text
  back-keeps-starts ss text = back-keeps (reverse ss) text ∙ ap (λ (l : List Spelled). starts (at l) text) (reverse-reverse ss)

-- ---- what it leaves has no outer gap of unequal bounds, and a rule without one is left as it was

pub front-inner : (ss : List Spelled) → first_outer (from_front ss) ≡ inner
front-inner [] = refl
front-inner (s ∷ ss) = by_kind s.element.kind refl (front-inner ss)
  where
    by_kind : (k : Kind) → s.element.kind ≡ k → first_outer (from_front ss) ≡ inner → first_outer (kind_dotted k ss (from_front ss) (s ∷ ss)) ≡ inner
    by_kind (byte b) e ih = rw e
    by_kind any e ih = rw e
    by_kind (class t rs) e ih = rw e
    by_kind (gap a b) e ih = by_test a (ltb a b) refl
      where
        by_test : (n : ℕ) (x : Bool) → ltb a b ≡ x → first_outer (dotted n b x ss (from_front ss) (s ∷ ss)) ≡ inner
        by_test n false q = rw (e, q)
        by_test zero true q = ih
        by_test (suc n) true q = refl

pub front_same : (ss : List Spelled) → first_outer ss ≡ inner → from_front ss ≡ ss
front_same [] h = refl
front_same (s ∷ ss) h = by_kind s.element.kind refl
  where
    by_kind : (k : Kind) → s.element.kind ≡ k → kind_dotted k ss (from_front ss) (s ∷ ss) ≡ s ∷ ss
    by_kind (byte b) e = refl
    by_kind any e = refl
    by_kind (class t rs) e = refl
    by_kind (gap a b) e = by_test (ltb a b) refl
      where
        by_test : (x : Bool) → ltb a b ≡ x → dotted a b x ss (from_front ss) (s ∷ ss) ≡ s ∷ ss
        by_test false q = refl
        by_test true q = absurd (not_inner s.place (sym at-outer ∙ h))
          where
            at-outer : first_outer (s ∷ ss) ≡ outer_at s.place
            at-outer = rw (e, q)

            not_inner : (p : ℕ) → outer_at p ≡ inner → ⊥
            not_inner p r = let z : ◌≡◌ {A = ℕ} 0 1 = cc in omega arith

-- the last element is the first from the back
last_snoc : (ts : List Spelled) (s : Spelled) → last_outer (ts ++ (s ∷ [])) ≡ first_outer (s ∷ [])
last_snoc [] s = refl
last_snoc (t ∷ ts) s = go ts (last_snoc ts s)
  where
    go : (ts : List Spelled) → last_outer (ts ++ (s ∷ [])) ≡ first_outer (s ∷ []) → last_outer (t ∷ (ts ++ (s ∷ []))) ≡ first_outer (s ∷ [])
    go [] ih = refl
    go (u ∷ us) ih = ih

pub last-reverse : (rs : List Spelled) → last_outer (reverse rs) ≡ first_outer rs
last-reverse [] = refl
last-reverse (s ∷ rs) = ap last_outer (reverse-cons s rs) ∙ last_snoc (reverse rs) s

-- What is left of a list read from its front: dots, and then some last part of it.
pub record Peeled (rs : List Spelled) : Type 0 where
  pub count : ℕ
  pub gone : List Spelled
  pub left : List Spelled
  pub joined : rs ≡ gone ++ left
  pub is : from_front rs ≡ dots count ++ left

pub peeled : (rs : List Spelled) → Peeled rs
peeled [] = record { count = 0; gone = []; left = []; joined = refl; is = refl }
peeled (s ∷ rs) = by_kind s.element.kind refl (peeled rs)
  where
    untouched : from_front (s ∷ rs) ≡ s ∷ rs → Peeled (s ∷ rs)
    untouched e = record { count = 0; gone = []; left = s ∷ rs; joined = refl; is = e }

    by_kind : (k : Kind) → s.element.kind ≡ k → Peeled rs → Peeled (s ∷ rs)
    by_kind (byte b) e p = untouched (rw e)
    by_kind any e p = untouched (rw e)
    by_kind (class t xs) e p = untouched (rw e)
    by_kind (gap a b) e p = by_test a (ltb a b) refl refl
      where
        by_test : (n : ℕ) (x : Bool) → a ≡ n → ltb a b ≡ x → Peeled (s ∷ rs)
        by_test n false z q = untouched (rw (e, q))
        by_test zero true z q =
            let d : from_front (s ∷ rs) ≡ from_front rs = ap (λ (k : Kind). kind_dotted k rs (from_front rs) (s ∷ rs)) e ∙ ap₂ (λ (n : ℕ) (x : Bool). dotted n b x rs (from_front rs) (s ∷ rs)) z q in
            record { count = p.count; gone = s ∷ p.gone; left = p.left; joined = ap (λ (l : List Spelled). s ∷ l) p.joined; is = d ∙ p.is }
        by_test (suc n) true z q =
            let d : from_front (s ∷ rs) ≡ dots (suc n) ++ rs = ap (λ (k : Kind). kind_dotted k rs (from_front rs) (s ∷ rs)) e ∙ ap₂ (λ (n : ℕ) (x : Bool). dotted n b x rs (from_front rs) (s ∷ rs)) z q in
            record { count = suc n; gone = s ∷ []; left = rs; joined = refl; is = d }

-- The same from its back.
pub record PeeledBack (ss : List Spelled) : Type 0 where
  pub count : ℕ
  pub left : List Spelled
  pub gone : List Spelled
  pub joined : ss ≡ left ++ gone
  pub is : from_back ss ≡ left ++ dots count

pub peeled_back : (ss : List Spelled) → PeeledBack ss
peeled_back ss =
    let p = peeled (reverse ss) in
    record {
      count = p.count;
      left = reverse p.left;
      gone = reverse p.gone;
      joined = sym (reverse-reverse ss) ∙ ap reverse p.joined ∙ reverse-append p.gone p.left;
      is = ap reverse p.is ∙ reverse-append (dots p.count) p.left ∙ ap (λ (l : List Spelled). reverse p.left ++ l) (dots-reverse p.count);
    }

back-first : (ss : List Spelled) → first_outer ss ≡ inner → first_outer (from_back ss) ≡ inner
back-first ss h =
    let p = peeled_back ss in
    ap first_outer p.is ∙ go p.left p.count p.gone (sym (ap first_outer p.joined) ∙ h)
  where
    go : (ts : List Spelled) (n : ℕ) (us : List Spelled) → first_outer (ts ++ us) ≡ inner → first_outer (ts ++ dots n) ≡ inner
    go [] zero us h = refl
    go [] (suc n) us h = refl
    go (t ∷ ts) n us h = h

-- "new rules may not have one"
pub rewritten-inner : (ss : List Spelled) → outer (from_back (from_front ss)) ≡ inner
rewritten-inner ss =
    ap₂ either_outer (back-first (from_front ss) (front-inner ss)) (last-reverse (from_front (reverse (from_front ss))) ∙ front-inner (reverse (from_front ss)))

pub neither_outer : (o p : Outer) → either_outer o p ≡ inner → (o ≡ inner) × (p ≡ inner)
neither_outer inner p e = (refl, e)
neither_outer (outer_at n) p e = let z : ◌≡◌ {A = ℕ} 0 1 = cc in absurd (omega arith)

pub outer-none : (ss : List Spelled) → outer ss ≡ inner → from_back (from_front ss) ≡ ss
outer-none ss h =
    let a = neither_outer (first_outer ss) (last_outer ss) h in
    let b : first_outer (reverse ss) ≡ inner = sym (last-reverse (reverse ss)) ∙ ap last_outer (reverse-reverse ss) ∙ a.1 in
    ap from_back (front_same ss a.0) ∙ ap reverse (front_same (reverse ss) b) ∙ reverse-reverse ss
