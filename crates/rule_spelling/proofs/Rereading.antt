-- The rewriter's steps leave elements that are read again from their text, as many positions that are not optional, and no more in all. So its text is a rule with
-- the elements that it should have. Assumes nothing.
use mathlib.Core.Path.{◌≡◌, refl, sym, ap, ap₂, subst, ◌∙◌}
use mathlib.Core.Bool.{Bool, true, false, not, cond}
use mathlib.Core.List.{List, [], ◌∷◌, ◌++◌, append-nil, reverse, reverse-cons, nil≢cons, cons≢nil, head-eq_of_cons-eq, tail-eq_of_cons-eq}
use Prim.Native.Nat.{ℕ, zero, suc, ◌+◌, ◌-◌, ◌≤◌}
use native.Mathlib.Omega.{arith}
use lib.Arith.{le→nltb}
use lib.Dec.{T, ltb, eqb, eqb-suc-zero}
use lib.ListN.{length, replicate, length-append, length-replicate}
use Rattle.model.specs.Occurrence.{Position, all, shortest}
use Rattle.model.specs.RuleText.{rule_limit, position_limit, is_byte, Kind, byte, any, class, gap, Often, once, optional, Element, position, positions}
use Rattle.model.specs.Spelling.{Spelled, spelled, text_by, elements_by, unequal, inner, outer_at, first_outer, last_outer, either_outer, outer}
use Rattle.model.specs.NumberedAnswers.{accepted, elements_from, or_empty, parse_stored, or_outer, outer_checked, parse}
use Rattle.model.specs.Rewriter.{dots, dotted, kind_dotted, from_front, from_back, front_done, both_done, rewritten}
use Rattle.model.proofs.Truth.{T-to, cond_false}
use Rattle.model.proofs.Accepted.{RuleOk, accepted_ok, parsed_ok}
use Rattle.rule_spelling.proofs.MissedPositions.{shortest-replicate}
use Rattle.rule_spelling.proofs.OuterLaws.{spelled-positions, dots-positions, peeled, peeled_back, neither_outer, rewritten-inner}
use Rattle.rule_spelling.proofs.OneElement.{kind_fits}
use Rattle.rule_spelling.proofs.Spellings.{Reads, dots_read, reads_replaced, SpelledIs, spelled_is, reads-accepted}

-- ---- the rewriter's steps keep it readable

front_reads : (fold : Bool) (ss : List Spelled) → Reads fold ss → Reads fold (from_front ss)
front_reads fold ss r =
    let p = peeled ss in
    subst (Reads fold) (sym p.is) (dots_read fold p.count p.left (reads_later p.gone p.left (subst (Reads fold) p.joined r)))
  where
    reads_later : (us vs : List Spelled) → Reads fold (us ++ vs) → Reads fold vs
    reads_later [] vs r = r
    reads_later (u ∷ us) vs r = reads_later us vs r.1

back-reads : (fold : Bool) (ss : List Spelled) → Reads fold ss → Reads fold (from_back ss)
back-reads fold ss r =
    let p = peeled_back ss in
    let d : Reads fold (dots p.count) = subst (Reads fold) (append-nil (dots p.count)) (dots_read fold p.count [] tt) in
    subst (Reads fold) (sym p.is) (reads_replaced fold p.left p.gone (dots p.count) (subst (Reads fold) p.joined r) d)

-- ---- and leave as many positions that are not optional, and no more in all

shortest-append : (ps qs : List Position) → shortest (ps ++ qs) ≡ shortest ps + shortest qs
shortest-append [] qs = omega arith
shortest-append (p ∷ ps) qs = let h = shortest-append ps qs in omega arith

shortest_may : (fold : Bool) (n : ℕ) → shortest (replicate n (position fold any optional)) ≡ 0
shortest_may fold zero = refl
shortest_may fold (suc n) = let h = shortest_may fold n in omega arith

record Less (fold : Bool) (ss ts : List Spelled) : Type 0 where
  pub same : shortest (positions fold (elements_by ts)) ≡ shortest (positions fold (elements_by ss))
  pub fewer : length (positions fold (elements_by ts)) ≤ length (positions fold (elements_by ss))

module _ (fold : Bool) where
  abbrev at : List Spelled → List Position
  at ss = positions fold (elements_by ss)

  sizes_append : (ss ts : List Spelled) → (shortest (at (ss ++ ts)) ≡ shortest (at ss) + shortest (at ts)) × (length (at (ss ++ ts)) ≡ length (at ss) + length (at ts))
  sizes_append ss ts = (ap shortest (spelled-positions fold ss ts) ∙ shortest-append (at ss) (at ts), ap length (spelled-positions fold ss ts) ∙ length-append (at ss) (at ts))

  sizes_dots : (n : ℕ) → (shortest (at (dots n)) ≡ n) × (length (at (dots n)) ≡ n)
  sizes_dots n = (ap shortest (dots-positions fold n) ∙ shortest-replicate n (position fold any once) refl, ap length (dots-positions fold n) ∙ length-replicate n (position fold any once))

  sizes_reverse : (ss : List Spelled) → (shortest (at (reverse ss)) ≡ shortest (at ss)) × (length (at (reverse ss)) ≡ length (at ss))
  sizes_reverse [] = (refl, refl)
  sizes_reverse (s ∷ ss) =
      let ih = sizes_reverse ss in
      let i₀ = ih.0 in
      let i₁ = ih.1 in
      let a = sizes_append (reverse ss) (s ∷ []) in
      let a₀ = a.0 in
      let a₁ = a.1 in
      let b = sizes_append (s ∷ []) ss in
      let b₀ = b.0 in
      let b₁ = b.1 in
      let r = reverse-cons s ss in
      let r₀ : shortest (at (reverse (s ∷ ss))) ≡ shortest (at (reverse ss ++ (s ∷ []))) = ap (λ (l : List Spelled). shortest (at l)) r in
      let r₁ : length (at (reverse (s ∷ ss))) ≡ length (at (reverse ss ++ (s ∷ []))) = ap (λ (l : List Spelled). length (at l)) r in
      (omega arith, omega arith)

  front_less : (ss : List Spelled) → Less fold ss (from_front ss)
  front_less [] = record { same = refl; fewer = omega arith }
  front_less (s ∷ ss) = by_kind s.element.kind s.element.often (front_less ss)
    where
      whole : (k : Kind) (o : Often) → Spelled
      whole k o = record { element = record { kind = k; often = o }; place = s.place; bytes = s.bytes }

      by_kind : (k : Kind) (o : Often) → Less fold ss (from_front ss) → Less fold (whole k o ∷ ss) (kind_dotted k ss (from_front ss) (whole k o ∷ ss))
      by_kind (byte b) o ih = record { same = refl; fewer = omega arith }
      by_kind any o ih = record { same = refl; fewer = omega arith }
      by_kind (class t rs) o ih = record { same = refl; fewer = omega arith }
      by_kind (gap a b) o ih = by_test a (ltb a b) refl
        where
          may : List Position
          may = replicate (b - a) (position fold any optional)

          must : List Position
          must = replicate a (position fold any once)

          short : shortest ((may ++ must) ++ at ss) ≡ a + shortest (at ss)
          short = let x = shortest-append (may ++ must) (at ss) in let y = shortest-append may must in let z = shortest_may fold (b - a) in let w = shortest-replicate a (position fold any once) refl in omega arith

          long : a + length (at ss) ≤ length ((may ++ must) ++ at ss)
          long = omega (arith, length-append (may ++ must) (at ss), length-append may must, length-replicate a (position fold any once))

          by_test : (n : ℕ) (x : Bool) → a ≡ n → Less fold (whole (gap a b) o ∷ ss) (dotted n b x ss (from_front ss) (whole (gap a b) o ∷ ss))
          by_test n false e = record { same = refl; fewer = omega arith }
          by_test zero true e =
              let i₀ = ih.same in
              let i₁ = ih.fewer in
              let s₀ = short in
              let s₁ = long in
              record { same = omega arith; fewer = omega arith }
          by_test (suc n) true e =
              let d = sizes_append (dots (suc n)) ss in
              let d₀ = d.0 in
              let d₁ = d.1 in
              let c = sizes_dots (suc n) in
              let c₀ = c.0 in
              let c₁ = c.1 in
              let s₀ = short in
              let s₁ = long in
              record { same = omega arith; fewer = omega arith }

  back_less : (ss : List Spelled) → Less fold ss (from_back ss)
  back_less ss =
      let f = front_less (reverse ss) in
      let f₀ = f.same in
      let f₁ = f.fewer in
      let a = sizes_reverse (from_front (reverse ss)) in
      let a₀ = a.0 in
      let a₁ = a.1 in
      let b = sizes_reverse ss in
      let b₀ = b.0 in
      let b₁ = b.1 in
      record { same = omega arith; fewer = omega arith }

-- ---- outer gaps are told by the elements

outer-elements : (ss ts : List Spelled) → elements_by ss ≡ elements_by ts → outer ss ≡ inner → outer ts ≡ inner
outer-elements ss ts e h =
    let b = neither_outer (first_outer ss) (last_outer ss) h in
    ap₂ either_outer (first ss ts e b.0) (last ss ts e b.1)
  where
    one : (x y : Spelled) → x.element ≡ y.element → cond (unequal x.element.kind) (outer_at x.place) inner ≡ inner → cond (unequal y.element.kind) (outer_at y.place) inner ≡ inner
    one x y e h = go (unequal x.element.kind) refl h
      where
        go : (b : Bool) → unequal x.element.kind ≡ b → cond b (outer_at x.place) inner ≡ inner → cond (unequal y.element.kind) (outer_at y.place) inner ≡ inner
        go true q h = let z : ◌≡◌ {A = ℕ} 0 1 = cc in absurd (omega arith)
        go false q h = let z : unequal y.element.kind ≡ false = ap (λ (u : Element). unequal u.kind) (sym e) ∙ q in rw z

    first : (ss ts : List Spelled) → elements_by ss ≡ elements_by ts → first_outer ss ≡ inner → first_outer ts ≡ inner
    first [] [] e h = refl
    first [] (t ∷ ts) e h = absurd (nil≢cons e)
    first (s ∷ ss) [] e h = refl
    first (s ∷ ss) (t ∷ ts) e h = one s t (head-eq_of_cons-eq e) h

    last : (ss ts : List Spelled) → elements_by ss ≡ elements_by ts → last_outer ss ≡ inner → last_outer ts ≡ inner
    last [] [] e h = refl
    last [] (t ∷ ts) e h = absurd (nil≢cons e)
    last (s ∷ ss) [] e h = refl
    last (s ∷ ss) (t ∷ ts) e h = go ss ts (tail-eq_of_cons-eq e) h (last ss)
      where
        go : (ss ts : List Spelled) → elements_by ss ≡ elements_by ts → last_outer (s ∷ ss) ≡ inner → ((ts : List Spelled) → elements_by ss ≡ elements_by ts → last_outer ss ≡ inner → last_outer ts ≡ inner)
            → last_outer (t ∷ ts) ≡ inner
        go [] [] q h ih = one s t (head-eq_of_cons-eq e) h
        go [] (v ∷ vs) q h ih = absurd (nil≢cons q)
        go (u ∷ us) [] q h ih = absurd (cons≢nil q)
        go (u ∷ us) (v ∷ vs) q h ih = ih (v ∷ vs) q h

-- ---- the rewritten text

-- A readable list of elements that fits the limits, and admits no empty string, is a stored rule.
reads-stored : (fold : Bool) (ss : List Spelled) → Reads fold ss → 1 ≤ shortest (positions fold (elements_by ss)) → length (positions fold (elements_by ss)) ≤ position_limit
    → length (text_by ss) ≤ rule_limit → parse_stored fold (text_by ss) ≡ accepted (elements_by ss)
reads-stored fold ss r some few short =
    let a : elements_from position_limit fold 0 0 0 (text_by ss) ≡ accepted (elements_by ss) = reads-accepted position_limit fold ss 0 0 r (omega arith) in
    let n : 1 ≤ length (text_by ss) = text-some ss r some in
    cond_false (eqb (length (text_by ss)) 0) _ _ (not_eqb (length (text_by ss)) n)
    ∙ cond_false (ltb rule_limit (length (text_by ss))) _ _ (le→nltb rule_limit (length (text_by ss)) short)
    ∙ ap (or_empty fold (text_by ss)) a
    ∙ cond_false (eqb (shortest (positions fold (elements_by ss))) 0) _ _ (not_eqb (shortest (positions fold (elements_by ss))) some)
  where
    not_eqb : (n : ℕ) → 1 ≤ n → T (not (eqb n 0))
    not_eqb zero h = absurd (omega arith)
    not_eqb (suc n) h = T-to (sym (ap not (eqb-suc-zero n))) tt

    text-some : (ss : List Spelled) → Reads fold ss → 1 ≤ shortest (positions fold (elements_by ss)) → 1 ≤ length (text_by ss)
    text-some [] r h = absurd (omega arith)
    text-some (s ∷ ss) r h =
        let f = (kind_fits fold (s.bytes ++ text_by ss) s.element.kind r.0.count r.0.is).0 in
        let w = r.0.long in
        omega (arith, length-append s.bytes (text_by ss))

-- A stored rule's elements.
pub stored-spelled : (fold : Bool) (rule : List ℕ) (es : List Element) → parse_stored fold rule ≡ accepted es → SpelledIs fold rule es (spelled fold rule)
stored-spelled fold rule es ok = spelled_is position_limit fold rule 0 0 0 es (parsed_ok rule_limit position_limit fold rule es ok).reads

module _ (fold : Bool) (rule : List ℕ) (es : List Element) (bytes : T (all is_byte rule)) (ok : parse_stored fold rule ≡ accepted es) where
  is : SpelledIs fold rule es (spelled fold rule)
  is = stored-spelled fold rule es ok

  stored-fine : RuleOk position_limit (positions fold (elements_by (spelled fold rule)))
  stored-fine = subst (λ (l : List Element). RuleOk position_limit (positions fold l)) (sym is.elements) (accepted_ok rule_limit position_limit fold rule es bytes ok)

  -- What the front steps leave, where it is not past the length limit ..
  pub front_parses : length (text_by (front_done fold rule)) ≤ rule_limit → parse_stored fold (text_by (front_done fold rule)) ≡ accepted (elements_by (front_done fold rule))
  front_parses l =
      let ss = spelled fold rule in
      let f = front_less fold ss in
      let f₀ = f.same in
      let f₁ = f.fewer in
      let k₀ = stored-fine.not_empty in
      let k₁ = stored-fine.few in
      reads-stored fold (from_front ss) (front_reads fold ss is.reads) (omega arith) (omega arith) l

  -- .. and the finished text: a new rule, never refused by 16, with the elements that it should have.
  pub rewritten_parses : length (rewritten fold rule) ≤ rule_limit → parse fold (rewritten fold rule) ≡ accepted (elements_by (both_done fold rule))
  rewritten_parses l =
      let ss = spelled fold rule in
      let qs = both_done fold rule in
      let f = front_less fold ss in
      let f₀ = f.same in
      let f₁ = f.fewer in
      let g = back_less fold (from_front ss) in
      let g₀ = g.same in
      let g₁ = g.fewer in
      let k₀ = stored-fine.not_empty in
      let k₁ = stored-fine.few in
      let r = back-reads fold (from_front ss) (front_reads fold ss is.reads) in
      let p = reads-stored fold qs r (omega arith) (omega arith) l in
      let again = stored-spelled fold (text_by qs) (elements_by qs) p in
      ap (outer_checked fold (text_by qs)) p ∙ ap (or_outer (elements_by qs)) (outer-elements qs (spelled fold (text_by qs)) (sym again.elements) (rewritten-inner ss))
