-- What a union of entries lacks, each of them lacks. Assumes nothing.
use Rattle.std.proofs.Common.{◌≡◌, ℕ, ◌+◌, ◌-◌, ◌*◌, ◌%◌, ◌^◌, ◌<◌, ◌≤◌, true, false, ◌||◌, eqb, List, [], ◌∷◌, length, get_or, drop, get_or-take, get_or-drop, ap, zero, suc, min, max, sym, ◌∙◌, one-mul, arith, lit<, shl_exact, eqb-true}
use Rattle.std.specs.List.{fold, slice_range}
use native.Mathlib.Decide.{dec_lt}
use lib.Bits.{bit_and, bit_or}
use lib.ListN.{get_or-eq_default}
use Rattle.model.proofs.Truth.{or_false_left, or_false_right}
use Rattle.shift_and.specs.Bit.{bit}
use Rattle.shift_and.proofs.Digits.{or_bit, none-bit}
use Rattle.shift_and.proofs.DisjointBits.{clear_at}
use Rattle.prefilter.specs.Soundness.{Union, UnionWithout, ClearBit}

-- a fold by `|` from u on
pub united : (xs : List ℕ) (u j : ℕ) → bit (fold bit_or u xs) j ≡ false → (bit u j ≡ false) × ((k : ℕ) → bit (get_or xs k 0) j ≡ false)
united [] u j z = (z, λ k. none-bit j)
united (x ∷ xs) u j z =
    let r = united xs (bit_or u x) j z in
    let e : (bit u j || bit x j) ≡ false = sym (or_bit u x j) ∙ r.0 in
    (or_false_left (bit u j) (bit x j) e, at (or_false_right (bit u j) (bit x j) e) r.1)
  where
    at : bit x j ≡ false → ((k : ℕ) → bit (get_or xs k 0) j ≡ false) → (k : ℕ) → bit (get_or (x ∷ xs) k 0) j ≡ false
    at e f zero = e
    at e f (suc k) = f k

-- of the entries from m on, of which those from lo on are asked for
pub union_is : (t : List ℕ) (lo hi m w : ℕ) → m ≤ lo → w ≡ fold bit_or 0 (slice_range t m hi) → Union t lo hi w
union_is t lo hi m w l e = record { all = λ c a b j z. go c a b j ((united (slice_range t m hi) 0 j (rw e at z)).1 (c - m)) }
  where
    go : (c : ℕ) → lo ≤ c → c < hi → (j : ℕ) → bit (get_or (slice_range t m hi) (c - m) 0) j ≡ false → bit (get_or t c 0) j ≡ false
    go c a b j h =
        let short : c - m < hi - m = omega arith in
        let back : m + (c - m) ≡ c = omega arith in
        let e : get_or (slice_range t m hi) (c - m) 0 ≡ get_or t c 0 = get_or-take (hi - m) (drop m t) (c - m) 0 short ∙ get_or-drop m t (c - m) 0 ∙ ap (λ k. get_or t k 0) back in
        rw (← e) h

pub clear-is : (t : List ℕ) (w p y : ℕ) → p < 64 → ClearBit t w p y (eqb (bit_and (bit_or w (get_or t y 0)) (1 * 2 ^ p % 2 ^ 64)) 0)
clear-is t w p y h = record {
  word = λ z. or_false_left (bit w p) (bit (get_or t y 0) p) (both z);
  entry = λ z. or_false_right (bit w p) (bit (get_or t y 0) p) (both z);
}
  where
    one : 1 * 2 ^ p % 2 ^ 64 ≡ 2 ^ p
    one = shl_exact 1 p 64 (lit< tt) (omega arith) ∙ one-mul (2 ^ p)

    both : eqb (bit_and (bit_or w (get_or t y 0)) (1 * 2 ^ p % 2 ^ 64)) 0 ≡ true → (bit w p || bit (get_or t y 0) p) ≡ false
    both z =
        let u : bit_and (bit_or w (get_or t y 0)) (2 ^ p) ≡ 0 = rw (← one) (eqb-true _ 0 z) in
        sym (or_bit w (get_or t y 0) p) ∙ clear_at (bit_or w (get_or t y 0)) p u

-- the entries but those of lo and hi
pub others_are : (t : List ℕ) (lo hi u v w : ℕ) → length t ≡ 256 → Union t 0 lo u → Union t (lo + 1) hi v → Union t (hi + 1) 256 w → UnionWithout t lo hi (bit_or (bit_or u v) w)
others_are t lo hi u v w n a b d = record { all = λ c x y j z. go c x y j (sym (or_bit (bit_or u v) w j) ∙ z) (dec_lt c lo) (dec_lt c hi) (dec_lt c 256) }
  where
    go : (c : ℕ) → (c ≡ lo → ⊥) → (c ≡ hi → ⊥) → (j : ℕ) → (bit (bit_or u v) j || bit w j) ≡ false → Dec (c < lo) → Dec (c < hi) → Dec (c < 256) → bit (get_or t c 0) j ≡ false
    go c x y j z p q r =
        let uv : (bit u j || bit v j) ≡ false = sym (or_bit u v j) ∙ or_false_left (bit (bit_or u v) j) (bit w j) z in
        by p q r (or_false_left (bit u j) (bit v j) uv) (or_false_right (bit u j) (bit v j) uv) (or_false_right (bit (bit_or u v) j) (bit w j) z)
      where
        by : Dec (c < lo) → Dec (c < hi) → Dec (c < 256) → bit u j ≡ false → bit v j ≡ false → bit w j ≡ false → bit (get_or t c 0) j ≡ false
        by (yes l) q r eu ev ew = a.all c (omega arith) l j eu
        by (no l) (yes l') r eu ev ew = b.all c (omega arith) l' j ev
        by (no l) (no l') (yes l'') eu ev ew = d.all c (omega arith) l'' j ew
        by (no l) (no l') (no l'') eu ev ew =
            let e : get_or t c 0 ≡ 0 = get_or-eq_default t 0 (omega arith) in
            rw e (none-bit j)

-- in whichever order they stand
pub others_sorted : (t : List ℕ) (x y lo hi w : ℕ) → lo ≡ min x y → hi ≡ max x y → UnionWithout t lo hi w → UnionWithout t x y w
others_sorted t x y lo hi w el eh g = record { all = λ c p q. g.all c (omega arith) (omega arith) }
