-- Raw places and pairs: a place for each decoded byte, rising weakly up to the bytes taken; pairs of ends over tokens that are joined; and pairs that lie flat in a
-- list. Assumes nothing.
use mathlib.Core.Path.{◌≡◌, refl, sym, ap, ap₂, subst, ◌∙◌}
use mathlib.Core.Bool.{Bool, true, false}
use mathlib.Core.List.{List, [], ◌∷◌, ◌++◌, append_assoc}
use Prim.Native.Nat.{ℕ, zero, suc, pred, ◌+◌, ◌-◌, ◌*◌, ◌≤◌, ◌<◌}
use native.Mathlib.Omega.{arith}
use native.Mathlib.Decide.{dec_lt}
use lib.ListN.{length, get_or, replicate, length-append, length-replicate, get_or-replicate, get_or-append}
use lib.Seq.{get_or-append-add}
use Rattle.model.specs.Occurrence.{cons_if, all_from}
use Rattle.model.specs.References.{Token, byte_tokens, taken, joined}
use Rattle.model.specs.RawPlaces.{places_by, Entry, place_in, placed, entries_by, ends_of, raws_of, pair_numbers, flat, pairs_of, WeaklyRising}

-- ---- ends past `at`, rising, none past `last`

abbrev pub Rises : (at last : ℕ) → List ℕ → Type 0
Rises at last [] = at ≤ last
Rises at last (e ∷ es) = (at < e) × Rises e last es

pub rises_le : (es : List ℕ) (at last : ℕ) → Rises at last es → at ≤ last
rises_le [] at last r = r
rises_le (e ∷ es) at last r = let a = r.0 in let b = rises_le es e last r.1 in omega arith

pub rises_lower : (es : List ℕ) (i at last : ℕ) → i ≤ at → Rises at last es → Rises i last es
rises_lower [] i at last h r = omega arith
rises_lower (e ∷ es) i at last h r = let a = r.0 in (omega arith, r.1)

pub rises_next : (b : Bool) (es : List ℕ) (at last : ℕ) → Rises (suc at) last es → Rises at last (cons_if b (suc at) es)
rises_next true es at last r = (omega arith, r)
rises_next false es at last r = rises_lower es at (suc at) last (omega arith) r

pub all_rises : (f : ℕ → Bool) (n at : ℕ) → Rises at (at + n) (all_from f (suc at) n)
all_rises f zero at = omega arith
all_rises f (suc n) at =
    let e : suc at + n ≡ at + suc n = omega arith in
    rises_next (f (suc at)) (all_from f (suc (suc at)) n) at (at + suc n) (subst (λ (l : ℕ). Rises (suc at) l (all_from f (suc (suc at)) n)) e (all_rises f n (suc at)))

-- ---- a second reading of tokens

pub places_append : (raw : ℕ) (xs ys : List Token) → places_by raw (xs ++ ys) ≡ places_by raw xs ++ places_by (raw + taken xs) ys
places_append raw [] ys = let e : raw ≡ raw + 0 = omega arith in ap (λ (i : ℕ). places_by i ys) e
places_append raw (t ∷ xs) ys =
    let e : (raw + t.takes) + taken xs ≡ raw + (t.takes + taken xs) = omega arith in
    let g : List ℕ = replicate (length t.gives) (raw + t.takes) in
    ap (λ (l : List ℕ). g ++ l) (places_append (raw + t.takes) xs ys ∙ ap (λ (i : ℕ). places_by (raw + t.takes) xs ++ places_by i ys) e)
    ∙ sym (append_assoc g (places_by (raw + t.takes) xs) (places_by (raw + (t.takes + taken xs)) ys))

-- one place for each decoded byte
pub places_length : (raw : ℕ) (ts : List Token) → length (places_by raw ts) ≡ length (joined ts)
places_length raw [] = refl
places_length raw (t ∷ ts) =
    let r = places_length (raw + t.takes) ts in
    let g : List ℕ = replicate (length t.gives) (raw + t.takes) in
    omega (arith, length-append g (places_by (raw + t.takes) ts), length-replicate (length t.gives) (raw + t.takes), length-append t.gives (joined ts))

-- "counts byte by byte"
pub places_bytes : (cs : List ℕ) (raw i : ℕ) → i < length cs → get_or (places_by raw (byte_tokens cs)) i 0 ≡ raw + suc i
places_bytes [] raw i h = absurd (omega arith)
places_bytes (c ∷ cs) raw zero h = refl
places_bytes (c ∷ cs) raw (suc i) h = let r = places_bytes cs (raw + 1) i (omega arith) in omega arith

-- Places count from where they are told to begin.
pub places_shift : (ts : List Token) (raw d i : ℕ) → i < length (joined ts) → get_or (places_by (raw + d) ts) i 0 ≡ raw + get_or (places_by d ts) i 0
places_shift [] raw d i h = absurd (omega arith)
places_shift (t ∷ ts) raw d i h = go (dec_lt i (length t.gives)) (places_shift ts)
  where
    go : Dec (i < length t.gives) → ((raw d i : ℕ) → i < length (joined ts) → get_or (places_by (raw + d) ts) i 0 ≡ raw + get_or (places_by d ts) i 0)
        → get_or (places_by (raw + d) (t ∷ ts)) i 0 ≡ raw + get_or (places_by d (t ∷ ts)) i 0
    go (yes l) ih =
        let n : ℕ = length t.gives in
        let a : ℕ = raw + d + t.takes in
        let b : ℕ = d + t.takes in
        let x : get_or (replicate n a ++ places_by a ts) i 0 ≡ a = get_or-append (replicate n a) (places_by a ts) 0 i (omega (arith, length-replicate n a)) ∙ get_or-replicate n i a 0 l in
        let y : get_or (replicate n b ++ places_by b ts) i 0 ≡ b = get_or-append (replicate n b) (places_by b ts) 0 i (omega (arith, length-replicate n b)) ∙ get_or-replicate n i b 0 l in
        omega (arith, x, y)
    go (no l) ih =
        let n : ℕ = length t.gives in
        let a : ℕ = raw + d + t.takes in
        let b : ℕ = d + t.takes in
        let k : i ≡ length (replicate n a) + (i - n) = omega (arith, length-replicate n a) in
        let m : i ≡ length (replicate n b) + (i - n) = omega (arith, length-replicate n b) in
        let e : a ≡ raw + b = omega arith in
        let x : get_or (replicate n a ++ places_by a ts) i 0 ≡ get_or (places_by a ts) (i - n) 0 = ap (λ (j : ℕ). get_or (replicate n a ++ places_by a ts) j 0) k ∙ get_or-append-add (replicate n a) (places_by a ts) (i - n) 0 in
        let y : get_or (replicate n b ++ places_by b ts) i 0 ≡ get_or (places_by b ts) (i - n) 0 = ap (λ (j : ℕ). get_or (replicate n b ++ places_by b ts) j 0) m ∙ get_or-append-add (replicate n b) (places_by b ts) (i - n) 0 in
        let z : get_or (places_by a ts) (i - n) 0 ≡ raw + get_or (places_by b ts) (i - n) 0 = ap (λ (j : ℕ). get_or (places_by j ts) (i - n) 0) e ∙ ih raw b (i - n) (omega (arith, length-append t.gives (joined ts))) in
        omega (arith, x, y, z)

-- ---- pairs

pub placed-append : (p : ℕ → ℕ) (xs ys : List ℕ) → placed p (xs ++ ys) ≡ placed p xs ++ placed p ys
placed-append p [] ys = refl
placed-append p (x ∷ xs) ys = ap (λ (l : List Entry). record { end = x; raw = p x } ∷ l) (placed-append p xs ys)

pub placed_same : (p q : ℕ → ℕ) (es : List ℕ) (at last : ℕ) → Rises at last es → ((e : ℕ) → at < e → e ≤ last → p e ≡ q e) → placed p es ≡ placed q es
placed_same p q [] at last r h = refl
placed_same p q (e ∷ es) at last r h =
    let a = r.0 in
    let b = rises_le es e last r.1 in
    ap₂ (λ (x : ℕ) (l : List Entry). record { end = e; raw = x } ∷ l) (h e a b) (placed_same p q es e last r.1 (λ k u v. h k (omega arith) v))

pub placed-length : (p : ℕ → ℕ) (es : List ℕ) → length (placed p es) ≡ length es
placed-length p [] = refl
placed-length p (e ∷ es) = ap suc (placed-length p es)

pub placed-ends : (p : ℕ → ℕ) (es : List ℕ) → ends_of (placed p es) ≡ es
placed-ends p [] = refl
placed-ends p (e ∷ es) = ap (λ (l : List ℕ). e ∷ l) (placed-ends p es)

module _ (at raw : ℕ) (ts us : List Token) where
  -- ends in what the first tokens give,
  pub place-front : (e : ℕ) → at < e → e ≤ at + length (joined ts) → place_in at (places_by raw (ts ++ us)) e ≡ place_in at (places_by raw ts) e
  place-front e a b =
      ap (λ (l : List ℕ). get_or l (pred e - at) 0) (places_append raw ts us)
      ∙ get_or-append (places_by raw ts) (places_by (raw + taken ts) us) 0 (pred e - at) (omega (arith, places_length raw ts))

  pub entries_front : (xs : List ℕ) → Rises at (at + length (joined ts)) xs → entries_by at raw (ts ++ us) xs ≡ entries_by at raw ts xs
  entries_front xs r = placed_same (place_in at (places_by raw (ts ++ us))) (place_in at (places_by raw ts)) xs at (at + length (joined ts)) r place-front

  -- and in what the others do
  pub place-back : (e : ℕ) → at + length (joined ts) < e → place_in at (places_by raw (ts ++ us)) e ≡ place_in (at + length (joined ts)) (places_by (raw + taken ts) us) e
  place-back e a =
      let P : List ℕ = places_by raw ts in
      let Q : List ℕ = places_by (raw + taken ts) us in
      let k : pred e - at ≡ length P + (pred e - (at + length (joined ts))) = omega (arith, places_length raw ts) in
      ap₂ (λ (l : List ℕ) (i : ℕ). get_or l i 0) (places_append raw ts us) k ∙ get_or-append-add P Q (pred e - (at + length (joined ts))) 0

  pub entries_back : (ys : List ℕ) (last : ℕ) → Rises (at + length (joined ts)) last ys → entries_by at raw (ts ++ us) ys ≡ entries_by (at + length (joined ts)) (raw + taken ts) us ys
  entries_back ys last r =
      placed_same (place_in at (places_by raw (ts ++ us))) (place_in (at + length (joined ts)) (places_by (raw + taken ts) us)) ys (at + length (joined ts)) last r (λ e a b. place-back e a)

  pub entries_append : (xs ys : List ℕ) (last : ℕ) → Rises at (at + length (joined ts)) xs → Rises (at + length (joined ts)) last ys
      → entries_by at raw (ts ++ us) (xs ++ ys) ≡ entries_by at raw ts xs ++ entries_by (at + length (joined ts)) (raw + taken ts) us ys
  entries_append xs ys last r s =
      placed-append (place_in at (places_by raw (ts ++ us))) xs ys ∙ ap₂ (λ (l m : List Entry). l ++ m) (entries_front xs r) (entries_back ys last s)

-- ---- raw counts rise weakly, and lie within the bytes taken

weakly_lower : (xs : List ℕ) (i low high : ℕ) → i ≤ low → WeaklyRising low high xs → WeaklyRising i high xs
weakly_lower [] i low high h w = omega arith
weakly_lower (x ∷ xs) i low high h w = let a = w.0 in (omega arith, w.1)

pub weakly_higher : (xs : List ℕ) (low high top : ℕ) → high ≤ top → WeaklyRising low high xs → WeaklyRising low top xs
weakly_higher [] low high top h w = omega arith
weakly_higher (x ∷ xs) low high top h w = (w.0, weakly_higher xs x high top h w.1)

weakly_repeat : (n x high : ℕ) (xs : List ℕ) → WeaklyRising x high xs → WeaklyRising x high (replicate n x ++ xs)
weakly_repeat zero x high xs w = w
weakly_repeat (suc n) x high xs w = (omega arith, weakly_repeat n x high xs w)

pub places_rise : (ts : List Token) (raw : ℕ) → WeaklyRising raw (raw + taken ts) (places_by raw ts)
places_rise [] raw = omega arith
places_rise (t ∷ ts) raw =
    let e : raw + t.takes + taken ts ≡ raw + (t.takes + taken ts) = omega arith in
    let x : ℕ = raw + t.takes in
    let h : ℕ = raw + (t.takes + taken ts) in
    let n : ℕ = length t.gives in
    let r : WeaklyRising x h (places_by x ts) = subst (λ (l : ℕ). WeaklyRising x l (places_by x ts)) e (places_rise ts x) in
    weakly_lower (replicate n x ++ places_by x ts) raw x h (omega arith) (weakly_repeat n x h (places_by x ts) r)

weakly_at : (xs : List ℕ) (low high i : ℕ) → WeaklyRising low high xs → i < length xs → (low ≤ get_or xs i 0) × (get_or xs i 0 ≤ high)
weakly_at [] low high i w h = absurd (omega arith)
weakly_at (x ∷ xs) low high zero w h = (w.0, bound xs x high w.1)
  where
    bound : (xs : List ℕ) (x high : ℕ) → WeaklyRising x high xs → x ≤ high
    bound [] x high w = w
    bound (y ∷ ys) x high w = let a = w.0 in let b = bound ys y high w.1 in omega arith
weakly_at (x ∷ xs) low high (suc i) w h = let r = weakly_at xs x high i w.1 (omega arith) in let a = w.0 in let b = r.0 in (omega arith, r.1)

weakly_two : (xs : List ℕ) (low high i j : ℕ) → WeaklyRising low high xs → i ≤ j → j < length xs → get_or xs i 0 ≤ get_or xs j 0
weakly_two [] low high i j w l h = absurd (omega arith)
weakly_two (x ∷ xs) low high zero zero w l h = omega arith
weakly_two (x ∷ xs) low high zero (suc j) w l h = (weakly_at xs x high j w.1 (omega arith)).0
weakly_two (x ∷ xs) low high (suc i) zero w l h = absurd (omega arith)
weakly_two (x ∷ xs) low high (suc i) (suc j) w l h = weakly_two xs x high i j w.1 (omega arith) (omega arith)

module _ (P : List ℕ) (bottom high : ℕ) (w : WeaklyRising bottom high P) where
  raws_from : (es : List ℕ) (at low : ℕ) → Rises at (length P) es → ((i : ℕ) → at ≤ i → i < length P → low ≤ get_or P i 0) → low ≤ high
      → WeaklyRising low high (raws_of (placed (place_in 0 P) es))
  raws_from [] at low r h b = b
  raws_from (e ∷ es) at low r h b =
      let a = r.0 in
      let l = rises_le es e (length P) r.1 in
      let s : pred e - 0 < length P = omega arith in (
        h (pred e - 0) (omega arith) s,
        raws_from es e (place_in 0 P e) r.1 (λ i u v. weakly_two P bottom high (pred e - 0) i w (omega arith) v) (weakly_at P bottom high (pred e - 0) w s).1,
      )

-- of one end,
pub place-taken : (ts : List Token) (q : ℕ) → 1 ≤ q → q ≤ length (joined ts) → place_in 0 (places_by 0 ts) q ≤ taken ts
place-taken ts q a b =
    let r = (weakly_at (places_by 0 ts) 0 (0 + taken ts) (pred q - 0) (places_rise ts 0) (omega (arith, places_length 0 ts))).1 in
    omega arith

-- and of ends in a text, rising
pub raws_rise : (ts : List Token) (es : List ℕ) → Rises 0 (length (joined ts)) es → WeaklyRising 0 (taken ts) (raws_of (entries_by 0 0 ts es))
raws_rise ts es r =
    let P : List ℕ = places_by 0 ts in
    let w : WeaklyRising 0 (taken ts) P = subst (λ (l : ℕ). WeaklyRising 0 l P) (let z : 0 + taken ts ≡ taken ts = omega arith in z) (places_rise ts 0) in
    raws_from P 0 (taken ts) w es 0 0 (subst (λ (l : ℕ). Rises 0 l es) (sym (places_length 0 ts)) r) (λ i u v. omega arith) (omega arith)

-- ---- pairs in a list of numbers

pub flat_append : (xs ys : List Entry) → flat (xs ++ ys) ≡ flat xs ++ flat ys
flat_append [] ys = refl
flat_append (x ∷ xs) ys = ap (λ (l : List ℕ). x.end ∷ x.raw ∷ l) (flat_append xs ys)

pub flat-length : (es : List Entry) → length (flat es) ≡ pair_numbers * length es
flat-length [] = refl
flat-length (e ∷ es) = let r = flat-length es in omega arith

pub flat-pairs : (es : List Entry) → pairs_of (flat es) ≡ es
flat-pairs [] = refl
flat-pairs (e ∷ es) = ap (λ (l : List Entry). e ∷ l) (flat-pairs es)
