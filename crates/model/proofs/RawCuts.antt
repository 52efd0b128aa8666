-- A plan that is cut at a raw place: what stands before it, and what follows, decode to the front of the decoded plan and to its rest. Assumes nothing.
use mathlib.Core.Path.{◌≡◌, refl, sym, ap, ap₂, ◌∙◌}
use mathlib.Core.List.{List, [], ◌∷◌, ◌++◌}
use Prim.Native.Nat.{ℕ, zero, suc, pred, ◌+◌, ◌-◌, ◌≤◌, ◌<◌}
use native.Mathlib.Omega.{arith}
use native.Mathlib.Decide.{dec_le}
use lib.ListN.{length, take, drop, get_or, replicate, length-append, length-take, length-replicate, take-append-drop, get_or-replicate, get_or-append}
use lib.Seq.{take_at, drop_at, get_or-append-add}
use Rattle.model.specs.References.{Found, none, found, reference_at, Token, token_by, tokens_from, taken, joined, decode}
use Rattle.model.specs.RawPlaces.{places_by, raw_places, place_in, CutAt}
use Rattle.model.proofs.Forms.{not_none}
use Rattle.model.proofs.Borders.{ref_size, ref_local, ref_more}
use Rattle.model.proofs.Decoding.{joined-append, utf8_four}

-- ---- a cut after some tokens

abbrev head_or : Token → List Token → Token
head_or t [] = t
head_or t (u ∷ us) = u

module _ (limit : ℕ) where
  abbrev first : ℕ → List ℕ → Token
  first c cs = token_by c (reference_at limit (c ∷ cs))

  first_some : (c : ℕ) (cs : List ℕ) → 1 ≤ (first c cs).takes
  first_some c cs = go (reference_at limit (c ∷ cs)) refl
    where
      go : (f : Found) → reference_at limit (c ∷ cs) ≡ f → 1 ≤ (token_by c f).takes
      go none q = omega arith
      go (found n k) q = let s = (ref_size limit (c ∷ cs) n k q).0 in omega arith

  -- The first token is the same where all its bytes are there.
  same_first : (c : ℕ) (cs : List ℕ) (m : ℕ) → pred (first c cs).takes ≤ m → reference_at limit (c ∷ take m cs) ≡ reference_at limit (c ∷ cs)
  same_first c cs m h = go (reference_at limit (c ∷ cs)) refl (reference_at limit (c ∷ take m cs)) refl
    where
      join : (c ∷ take m cs) ++ drop m cs ≡ c ∷ cs
      join = ap (λ (l : List ℕ). c ∷ l) (take-append-drop m cs)

      go : (f : Found) → reference_at limit (c ∷ cs) ≡ f → (g : Found) → reference_at limit (c ∷ take m cs) ≡ g → reference_at limit (c ∷ take m cs) ≡ reference_at limit (c ∷ cs)
      go none q none p = p ∙ sym q
      go none q (found n k) p = not_none (sym q ∙ ap (reference_at limit) (sym join) ∙ ref_more limit (c ∷ take m cs) (drop m cs) n k p)
      go (found n k) q g p =
          let s = (ref_size limit (c ∷ cs) n k q).1 in
          let t : (first c cs).takes ≡ k = ap (λ (f : Found). (token_by c f).takes) q in
          ref_local limit (c ∷ take m cs) (drop m cs) n k (ap (reference_at limit) join ∙ q) (omega (arith, length-take m cs)) ∙ sym q

  front-first : (c : ℕ) (cs : List ℕ) (m : ℕ) → pred (first c cs).takes ≤ m
      → tokens_from limit 0 (c ∷ take m cs) ≡ first c cs ∷ tokens_from limit (pred (first c cs).takes) (take m cs)
  front-first c cs m h = ap (λ (f : Found). token_by c f ∷ tokens_from limit (pred (token_by c f).takes) (take m cs)) (same_first c cs m h)

  abbrev Parts : (cs : List ℕ) (skip n : ℕ) (xs ys : List Token) → Type 0
  Parts cs skip n xs ys = (tokens_from limit skip (take n cs) ≡ xs) × (tokens_from limit 0 (drop n cs) ≡ ys)

  parts : (cs : List ℕ) (skip n : ℕ) (xs ys : List Token) → n ≡ skip + taken xs → tokens_from limit skip cs ≡ xs ++ ys → Parts cs skip n xs ys
  parts [] skip n xs ys k e = nothing n xs ys e
    where
      nothing : (n : ℕ) (xs ys : List Token) → [] ≡ xs ++ ys → Parts [] skip n xs ys
      nothing zero [] ys e = (refl, e)
      nothing (suc n) [] ys e = (refl, e)
      nothing n (t ∷ xs) ys e = absurd (omega (arith, ap length e))
  parts (c ∷ cs) (suc k) zero xs ys q e = absurd (omega arith)
  parts (c ∷ cs) (suc k) (suc n) xs ys q e = parts cs k n xs ys (omega arith) e
  parts (c ∷ cs) zero n xs ys q e = go n xs q e (λ k n xs q e. parts cs k n xs ys q e)
    where
      go : (n : ℕ) (xs : List Token) → n ≡ 0 + taken xs → tokens_from limit 0 (c ∷ cs) ≡ xs ++ ys
          → ((k n : ℕ) (xs : List Token) → n ≡ k + taken xs → tokens_from limit k cs ≡ xs ++ ys → Parts cs k n xs ys) → Parts (c ∷ cs) 0 n xs ys
      go zero [] q e ih = (refl, e)
      go (suc n) [] q e ih = absurd (omega arith)
      go zero (t ∷ xs) q e ih =
          let h : first c cs ≡ t = ap (head_or t) e in
          absurd (omega (arith, first_some c cs, ap (λ (t : Token). t.takes) h))
      go (suc n) (t ∷ xs) q e ih =
          let h : first c cs ≡ t = ap (head_or t) e in
          let r : tokens_from limit (pred (first c cs).takes) cs ≡ xs ++ ys = ap (drop 1) e in
          let s = first_some c cs in
          let w = ap (λ (t : Token). t.takes) h in
          let i = ih (pred (first c cs).takes) n xs (omega arith) r in
          (front-first c cs n (omega arith) ∙ ap₂ (λ (t : Token) (l : List Token). t ∷ l) h i.0, i.1)

-- ---- the tokens up to an end

abbrev Short : List Token → Type 0
Short [] = Unit {0}
Short (t ∷ ts) = (length t.gives ≤ 4) × Short ts

tokens-short : (limit : ℕ) (cs : List ℕ) (skip : ℕ) → Short (tokens_from limit skip cs)
tokens-short limit [] skip = tt
tokens-short limit (c ∷ cs) (suc k) = tokens-short limit cs k
tokens-short limit (c ∷ cs) zero = (one (reference_at limit (c ∷ cs)), tokens-short limit cs (pred (token_by c (reference_at limit (c ∷ cs))).takes))
  where
    one : (r : Found) → length (token_by c r).gives ≤ 4
    one none = omega arith
    one (found n k) = utf8_four n

record UpTo (ts : List Token) (raw e : ℕ) : Type 0 where
  front : List Token
  rest : List Token
  both : ts ≡ front ++ rest
  has_end : e ≤ length (joined front)
  few : length (joined front) < e + 4
  place : place_in 0 (places_by raw ts) e ≡ raw + taken front

up_to : (ts : List Token) (raw e : ℕ) → Short ts → 1 ≤ e → e ≤ length (joined ts) → UpTo ts raw e
up_to [] raw e s h l = absurd (omega arith)
up_to (t ∷ ts) raw e s h l = go (dec_le e (length t.gives)) (up_to ts)
  where
    go : Dec (e ≤ length t.gives) → ((raw e : ℕ) → Short ts → 1 ≤ e → e ≤ length (joined ts) → UpTo ts raw e) → UpTo (t ∷ ts) raw e
    go (yes k) ih =
        let here : List ℕ = replicate (length t.gives) (raw + t.takes) in
        let later : List ℕ = places_by (raw + t.takes) ts in
        let w = s.0 in
        let z : pred e - 0 < length t.gives = omega arith in
        let one : length (joined (t ∷ [])) ≡ length t.gives = omega (arith, length-append t.gives []) in
        record {
          front = t ∷ [];
          rest = ts;
          both = refl;
          has_end = omega arith;
          few = omega arith;
          place =
              get_or-append here later 0 (pred e - 0) (omega (arith, length-replicate (length t.gives) (raw + t.takes)))
              ∙ get_or-replicate (length t.gives) (pred e - 0) (raw + t.takes) 0 z
              ∙ (let q : raw + t.takes ≡ raw + (t.takes + 0) = omega arith in q);
        }
    go (no k) ih =
        let here : List ℕ = replicate (length t.gives) (raw + t.takes) in
        let later : List ℕ = places_by (raw + t.takes) ts in
        let a = length-append t.gives (joined ts) in
        let x = ih (raw + t.takes) (e - length t.gives) s.1 (omega arith) (omega arith) in
        let j = length-append t.gives (joined x.front) in
        let u = x.has_end in
        let v = x.few in
        let i : pred e - 0 ≡ length here + (pred (e - length t.gives) - 0) = omega (arith, length-replicate (length t.gives) (raw + t.takes)) in
        record {
          front = t ∷ x.front;
          rest = x.rest;
          both = ap (λ (l : List Token). t ∷ l) x.both;
          has_end = omega arith;
          few = omega arith;
          place =
              ap (λ (i : ℕ). get_or (here ++ later) i 0) i
              ∙ get_or-append-add here later (pred (e - length t.gives) - 0) 0
              ∙ x.place
              ∙ (let q : raw + t.takes + taken x.front ≡ raw + (t.takes + taken x.front) = omega arith in q);
        }

-- The raw count of an end cuts the plan, and with it the decoded plan.
pub raw_cut : (limit : ℕ) (plan : List ℕ) (e : ℕ) → 1 ≤ e → e ≤ length (decode limit plan) → CutAt limit plan e (place_in 0 (raw_places limit plan) e)
raw_cut limit plan e h l =
    let ts : List Token = tokens_from limit 0 plan in
    let x = up_to ts 0 e (tokens-short limit plan 0) h l in
    let r : ℕ = place_in 0 (raw_places limit plan) e in
    let p = parts limit plan 0 r x.front x.rest x.place x.both in
    let j : decode limit plan ≡ joined x.front ++ joined x.rest = ap joined x.both ∙ joined-append x.front x.rest in
    record {
      size = length (joined x.front);
      front = ap joined p.0 ∙ sym (ap (take (length (joined x.front))) j ∙ take_at (joined x.front) (joined x.rest) (length (joined x.front)) refl);
      rest = ap joined p.1 ∙ sym (ap (drop (length (joined x.front))) j ∙ drop_at (joined x.front) (joined x.rest) (length (joined x.front)) refl);
      has_end = x.has_end;
      few = x.few;
    }
