-- Words compared by their bits: the same word, words with no bit in common, words whose bits end. Assumes nothing.
use Rattle.std.proofs.Common.{◌≡◌, ℕ, zero, suc, ◌+◌, ◌-◌, ◌/◌, ◌%◌, ◌^◌, ◌<◌, ◌≤◌, Bool, true, false, not, ◌&&◌, sym, refl, ap, ◌∙◌, lt_of_le_of_lt, mod-lt, arith, pow_pos, pow_mono, eq-eqb}
use native.Mathlib.Decide.{dec_lt}
use lib.Bits.{bit_and, and_le_l}
use Rattle.model.specs.Occurrence.{one_if}
use Rattle.shift_and.specs.Bit.{bit}
use Rattle.shift_and.proofs.Digits.{split, below_half, bit-above, and_bit, mod_bit, not_bit, none-bit, no_bits, power_bit}

-- ---- words with the same bits

pub same_bits : (w x y : ℕ) → x < 2 ^ w → y < 2 ^ w → ((j : ℕ) → j < w → bit x j ≡ bit y j) → x ≡ y
unfolding bit
same_bits zero x y hx hy h = omega arith
same_bits (suc w) x y hx hy h =
    let q : x / 2 ≡ y / 2 = same_bits w (x / 2) (y / 2) (below_half w hx) (below_half w hy) (λ j l. h (suc j) (omega arith)) in
    let z : one_if (bit x 0) ≡ one_if (bit y 0) = ap one_if (h 0 (omega arith)) in
    omega (arith, (split x).is, (split y).is, q, z)

lt_pow_self : (x : ℕ) → x < 2 ^ x
lt_pow_self zero = omega arith
lt_pow_self (suc x) = omega (arith, lt_pow_self x)

pub same-all : (x y : ℕ) → ((j : ℕ) → bit x j ≡ bit y j) → x ≡ y
same-all x y h =
    let p : 2 ^ x ≤ 2 ^ (x + y) = pow_mono (omega arith) in
    let q : 2 ^ y ≤ 2 ^ (x + y) = pow_mono (omega arith) in
    same_bits (x + y) x y (omega (arith, lt_pow_self x)) (omega (arith, lt_pow_self y)) (λ j l. h j)

-- ---- words with no bit in common

pub apart : (x y : ℕ) → bit_and x y ≡ 0 → (j : ℕ) → (bit x j && bit y j) ≡ false
apart x y e j = sym (and_bit x y j) ∙ ap (λ (n : ℕ). bit n j) e ∙ none-bit j

pub and_none : (x y : ℕ) → ((j : ℕ) → (bit x j && bit y j) ≡ false) → bit_and x y ≡ 0
and_none x y h = no_bits x (bit_and x y) (lt_of_le_of_lt (and_le_l x y) (lt_pow_self x)) (λ j l. and_bit x y j ∙ h j)

and-true : (b : Bool) → (b && true) ≡ false → b ≡ false
and-true false e = refl
and-true true e = e

ones_bit : (w i : ℕ) → i < w → bit (2 ^ w - 1) i ≡ true
ones_bit w i h = let e : (2 ^ w - 1) - 0 ≡ 2 ^ w - 1 = omega arith in rw e at (not_bit w 0 i (pow_pos w) h ∙ ap not (none-bit i))

-- none of the bits below w
pub clear-below : (x w : ℕ) → bit_and x (2 ^ w - 1) ≡ 0 → (i : ℕ) → i < w → bit x i ≡ false
clear-below x w e i h = and-true (bit x i) (ap (λ (b : Bool). bit x i && b) (sym (ones_bit w i h)) ∙ apart x (2 ^ w - 1) e i)

-- not bit n
pub clear_at : (x n : ℕ) → bit_and x (2 ^ n) ≡ 0 → bit x n ≡ false
clear_at x n e = and-true (bit x n) (ap (λ (b : Bool). bit x n && b) (sym (power_bit n n ∙ eq-eqb n n refl)) ∙ apart x (2 ^ n) e n)

-- ---- words whose bits end below w

abbrev pub Below : (w x : ℕ) → Type 0
Below w x = (i : ℕ) → w ≤ i → bit x i ≡ false

pub below-lt : (w x : ℕ) → Below w x → x < 2 ^ w
below-lt w x h =
    let l : x % 2 ^ w < 2 ^ w = mod-lt x (pow_pos w) in
    let e : x ≡ x % 2 ^ w = same-all x (x % 2 ^ w) (λ j. go j (dec_lt j w) l) in
    rw (← e) at l
  where
    go : (j : ℕ) → Dec (j < w) → x % 2 ^ w < 2 ^ w → bit x j ≡ bit (x % 2 ^ w) j
    go j (yes p) l = sym (mod_bit w x j p)
    go j (no n) l = h j (omega arith) ∙ sym (bit-above w (x % 2 ^ w) j l (omega arith))
