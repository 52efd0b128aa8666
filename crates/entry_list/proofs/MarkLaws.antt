-- Marks of tokens: none, bytes that stay, and a reference more. On plain values. Assumes nothing.
use mathlib.Core.Path.{◌≡◌, refl, sym, ap, ap₂, ◌∙◌}
use mathlib.Core.Bool.{Bool, cond}
use mathlib.Core.List.{List, [], ◌∷◌, ◌++◌}
use Prim.Native.Nat.{ℕ, max, zero, suc, pred, ◌+◌, ◌-◌, ◌*◌, ◌≤◌, ◌<◌}
use native.Mathlib.Omega.{arith}
use native.Mathlib.Decide.{dec_le}
use lib.Dec.{ltb}
use lib.ListN.{length, get_or, replicate, length-append, length-replicate, get_or-replicate, get_or-append}
use borrow.Author.Tests.{lt-ltb, le-ltb}
use Rattle.model.specs.References.{Token, byte_tokens, taken, joined}
use Rattle.model.specs.RawPlaces.{places_by, place_in}
use Rattle.model.proofs.Decoding.{joined-append, joined_bytes, taken-append, taken-bytes}
use Rattle.model.proofs.Places.{places_bytes, place-front, place-back}
use Rattle.entry_list.specs.Marks.{mark_numbers, start_of, after_of, ahead_of, larger_of, marked_place, Marked}

-- ---- one mark more

pub place_none : (marks : List ℕ) (q : ℕ) → marked_place marks 0 q ≡ q
unfolding marked_place
place_none marks q = refl

pub place-before : (marks : List ℕ) (m q : ℕ) → q ≤ start_of marks m → marked_place marks (suc m) q ≡ marked_place marks m q
unfolding marked_place
place-before marks m q h = ap (λ (b : Bool). cond b (larger_of q (after_of marks m) + ahead_of marks m) (marked_place marks m q)) (le-ltb (start_of marks m) q h)

pub place-past : (marks : List ℕ) (m q : ℕ) → start_of marks m < q → marked_place marks (suc m) q ≡ larger_of q (after_of marks m) + ahead_of marks m
unfolding marked_place
place-past marks m q h = ap (λ (b : Bool). cond b (larger_of q (after_of marks m) + ahead_of marks m) (marked_place marks m q)) (lt-ltb (start_of marks m) q h)

-- Marks that are the same up to there tell the same.
place_agree : (marks marks' : List ℕ) (m : ℕ) → ((i : ℕ) → i < mark_numbers * m → get_or marks' i 0 ≡ get_or marks i 0) → (q : ℕ) → marked_place marks' m q ≡ marked_place marks m q
unfolding marked_place
place_agree marks marks' zero h q = refl
place_agree marks marks' (suc m) h q =
    let s : start_of marks' m ≡ start_of marks m = h (mark_numbers * m) (omega arith) in
    let a : after_of marks' m ≡ after_of marks m = h (mark_numbers * m + 1) (omega arith) in
    let g : ahead_of marks' m ≡ ahead_of marks m = h (mark_numbers * m + 2) (omega arith) in
    let r = place_agree marks marks' m (λ i l. h i (omega arith)) q in
    ap₂ (λ (x y : ℕ). cond (ltb x q) (larger_of q y + ahead_of marks' m) (marked_place marks' m q)) s a
    ∙ ap₂ (λ (x y : ℕ). cond (ltb (start_of marks m) q) (larger_of q (after_of marks m) + x) y) g r

larger_left : (a b : ℕ) → b ≤ a → larger_of a b ≡ a
larger_left a b h = ap (λ (t : Bool). cond t b a) (le-ltb a b h)

larger_right : (a b : ℕ) → a ≤ b → larger_of a b ≡ b
larger_right a b h = go (dec_le b a)
  where
    go : Dec (b ≤ a) → larger_of a b ≡ b
    go (yes l) = let e : a ≡ b = omega arith in larger_left a b l ∙ e
    go (no l) = let k : a < b = omega arith in ap (λ (t : Bool). cond t b a) (lt-ltb a b k)

-- the model's word for the larger of two numbers
pub larger-max : (a b : ℕ) → max a b ≡ larger_of a b
larger-max a b = go (dec_le b a)
  where
    go : Dec (b ≤ a) → max a b ≡ larger_of a b
    go (yes l) = omega (arith, larger_left a b l)
    go (no l) = let h : a ≤ b = omega arith in omega (arith, larger_right a b h)

-- ---- the marks of tokens

pub marked-none : (marks : List ℕ) → Marked marks 0 []
marked-none marks = record { within = λ q a b. absurd (omega arith); beyond = λ q a. place_none marks q ∙ (let e : q ≡ 0 + (q - 0) = omega arith in e) }

module _ (marks : List ℕ) (m : ℕ) (ts : List Token) (x : Marked marks m ts) where
  pub marked-bytes : (bs : List ℕ) → Marked marks m (ts ++ byte_tokens bs)
  marked-bytes bs =
      let L : ℕ = length (joined ts) in
      let j : length (joined (ts ++ byte_tokens bs)) ≡ length (joined ts) + length bs = omega (arith, ap length (joined-append ts (byte_tokens bs)), length-append (joined ts) (joined (byte_tokens bs)), ap length (joined_bytes bs)) in
      let t : taken (ts ++ byte_tokens bs) ≡ taken ts + length bs = omega (arith, taken-append ts (byte_tokens bs), taken-bytes bs) in
      record {
        within = λ q a b. by q a b (omega arith) (dec_le q (length (joined ts)));
        beyond = λ q a. let e = x.beyond q (omega arith) in omega arith;
      }
    where
      by : (q : ℕ) → 1 ≤ q → q ≤ length (joined (ts ++ byte_tokens bs)) → q ≤ length (joined (ts ++ byte_tokens bs)) → Dec (q ≤ length (joined ts)) → marked_place marks m q ≡ place_in 0 (places_by 0 (ts ++ byte_tokens bs)) q
      by q a b b' (yes l) = x.within q a l ∙ sym (place-front 0 0 ts (byte_tokens bs) q (omega arith) (omega arith))
      by q a b b' (no l) =
          let j : length (joined (ts ++ byte_tokens bs)) ≡ length (joined ts) + length bs = omega (arith, ap length (joined-append ts (byte_tokens bs)), length-append (joined ts) (joined (byte_tokens bs)), ap length (joined_bytes bs)) in
          let e = x.beyond q (omega arith) in
          let p : get_or (places_by (0 + taken ts) (byte_tokens bs)) (pred q - (0 + length (joined ts))) 0 ≡ 0 + taken ts + suc (pred q - (0 + length (joined ts))) = places_bytes bs (0 + taken ts) (pred q - (0 + length (joined ts))) (omega arith) in
          let k : taken ts + (q - length (joined ts)) ≡ 0 + taken ts + suc (pred q - (0 + length (joined ts))) = omega arith in
          e ∙ k ∙ sym p ∙ sym (place-back 0 0 ts (byte_tokens bs) q (omega arith))

  -- a reference, with its mark written
  module _ (t : Token) (marks' : List ℕ) (same : (i : ℕ) → i < mark_numbers * m → get_or marks' i 0 ≡ get_or marks i 0)
      (start : start_of marks' m ≡ length (joined ts)) (after : after_of marks' m ≡ length (joined ts) + length t.gives)
      (ahead : ahead_of marks' m + (length (joined ts) + length t.gives) ≡ taken ts + t.takes) where
    all : length (joined (ts ++ (t ∷ []))) ≡ length (joined ts) + length t.gives
    all = omega (arith, ap length (joined-append ts (t ∷ [])), length-append (joined ts) (t.gives ++ []), length-append t.gives [])

    took : taken (ts ++ (t ∷ [])) ≡ taken ts + t.takes
    took = omega (arith, taken-append ts (t ∷ []))

    inside : (q : ℕ) → length (joined ts) < q → q ≤ length (joined ts) + length t.gives → marked_place marks' (suc m) q ≡ place_in 0 (places_by 0 (ts ++ (t ∷ []))) q
    inside q a b =
        let n : ℕ = length t.gives in
        let v : ℕ = 0 + taken ts + t.takes in
        let i : ℕ = pred q - (0 + length (joined ts)) in
        let l : i < n = omega arith in
        let g : get_or (places_by (0 + taken ts) (t ∷ [])) i 0 ≡ v =
        get_or-append (replicate n v) [] 0 i (omega (arith, length-replicate n v)) ∙ get_or-replicate n i v 0 l in
        let r = larger_right q (after_of marks' m) (omega arith) in
        let k : larger_of q (after_of marks' m) + ahead_of marks' m ≡ v = omega arith in
        place-past marks' m q (omega arith) ∙ k ∙ sym g ∙ sym (place-back 0 0 ts (t ∷ []) q (omega arith))

    pub marked_reference : Marked marks' (suc m) (ts ++ (t ∷ []))
    marked_reference = record { within = λ q a b. by q a b (dec_le q (length (joined ts))); beyond = past }
      where
        by : (q : ℕ) → 1 ≤ q → q ≤ length (joined (ts ++ (t ∷ []))) → Dec (q ≤ length (joined ts)) → marked_place marks' (suc m) q ≡ place_in 0 (places_by 0 (ts ++ (t ∷ []))) q
        by q a b (yes l) =
            place-before marks' m q (omega arith)
            ∙ place_agree marks marks' m same q
            ∙ x.within q a l
            ∙ sym (place-front 0 0 ts (t ∷ []) q (omega arith) (omega arith))
        by q a b (no l) = inside q (omega arith) (omega (arith, all))

        past : (q : ℕ) → length (joined (ts ++ (t ∷ []))) < q → marked_place marks' (suc m) q ≡ taken (ts ++ (t ∷ [])) + (q - length (joined (ts ++ (t ∷ []))))
        past q a =
            let r = larger_left q (after_of marks' m) (omega (arith, all)) in
            let k : larger_of q (after_of marks' m) + ahead_of marks' m ≡ taken (ts ++ (t ∷ [])) + (q - length (joined (ts ++ (t ∷ [])))) = omega (arith, all, took) in
            place-past marks' m q (omega (arith, all)) ∙ k
