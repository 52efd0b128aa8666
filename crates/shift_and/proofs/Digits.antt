-- One law for each word operation: bit j of its result, from the bits of its operands. Every law is over any width w, and every proof goes the
-- same way: the result is written as twice a rest and its lowest bit (`Split`), and the rest is the operation on the halves. Assumes nothing.
use Rattle.std.proofs.Common.{◌≡◌, ℕ, zero, suc, ◌+◌, ◌-◌, ◌*◌, ◌/◌, ◌%◌, ◌^◌, ◌<◌, ◌≤◌, min, max, Bool, true, false, not, ◌&&◌, ◌||◌, eqb, sym, refl, ap, ◌∙◌, ap₂, le_of_suc-le-suc, add-zero, add-suc, mod-lt, zero-lt-suc, mul_assoc, pow-suc, div-add-mod', add-one, arith}
use lib.Dec.{eqb-zero-suc, eqb-suc-zero, eqb-suc-suc}
use lib.Arith.{digits_div, digits_mod}
use lib.Pow.{mod-pow-add}
use lib.Bits.{bit_and, bit_or, bit_xor, and_step, or_step, xor_step, differ}
use Rattle.shift_and.specs.Bit.{is_set, differs, bit, lend, borrow, minus}
use Rattle.shift_and.specs.ForwardStep.{wrap_sub}
use Rattle.model.specs.Occurrence.{one_if}

-- ---- a number as its half and its lowest bit

one_if-lt : (b : Bool) → one_if b < 2
one_if-lt false = omega arith
one_if-lt true = omega arith

one_if-is_set : (n : ℕ) → n < 2 → one_if (is_set n) ≡ n
one_if-is_set zero h = refl
one_if-is_set (suc zero) h = refl
one_if-is_set (suc (suc n)) h = absurd (omega arith)

is_set-one_if : (b : Bool) → is_set (one_if b) ≡ b
is_set-one_if false = refl
is_set-one_if true = refl

-- x is twice q, and b. A record, so that q and b are found from a proof of it.
pub record Split (x q : ℕ) (b : Bool) : Type 0 where
  pub is : x ≡ q * 2 + one_if b

pub low-one_if : (x : ℕ) → one_if (bit x 0) ≡ x % 2
unfolding bit
low-one_if x = one_if-is_set (x % 2) (mod-lt x (zero-lt-suc 1))

-- every number is so written, by its half and its bit 0
pub split : (x : ℕ) → Split x (x / 2) (bit x 0)
split x = record { is = sym (ap (λ (n : ℕ). x / 2 * 2 + n) (low-one_if x) ∙ div-add-mod' x 2) }

-- and in no other way
pub half_is : {x q : ℕ} {b : Bool} → Split x q b → x / 2 ≡ q
half_is {q} {b} e = ap (λ (n : ℕ). n / 2) e.is ∙ digits_div q (one_if-lt b)

pub bit_zero : {x q : ℕ} {b : Bool} → Split x q b → bit x 0 ≡ b
unfolding bit
bit_zero {q} {b} e = ap (λ (n : ℕ). is_set (n % 2)) e.is ∙ ap is_set (digits_mod q (one_if-lt b)) ∙ is_set-one_if b

pub bit_suc : {x q : ℕ} {b : Bool} → Split x q b → (j : ℕ) → bit x (suc j) ≡ bit q j
unfolding bit
bit_suc e j = ap (λ (n : ℕ). bit n j) (half_is e)

pub below_half : {x : ℕ} (w : ℕ) → x < 2 ^ suc w → x / 2 < 2 ^ w
below_half w h = omega arith

-- a number of w bits has none above
pub bit-above : (w x j : ℕ) → x < 2 ^ w → w ≤ j → bit x j ≡ false
unfolding bit
bit-above zero x zero hx hj = let e : x ≡ 0 = omega arith in ap (λ (n : ℕ). is_set (n % 2)) e
bit-above zero x (suc j) hx hj = bit-above zero (x / 2) j (omega arith) (omega arith)
bit-above (suc w) x zero hx hj = absurd (omega arith)
bit-above (suc w) x (suc j) hx hj = bit-above w (x / 2) j (below_half w hx) (le_of_suc-le-suc hj)

-- ---- and, or, xor

module _ (op : ℕ → ℕ → ℕ) (f : ℕ → ℕ → ℕ) (g : Bool → Bool → Bool)
    (step : (x y : ℕ) → op x y ≡ op (x / 2) (y / 2) * 2 + f (x % 2) (y % 2))
    (says : (p q : Bool) → f (one_if p) (one_if q) ≡ one_if (g p q)) where
  op_split : (x y : ℕ) → Split (op x y) (op (x / 2) (y / 2)) (g (bit x 0) (bit y 0))
  op_split x y = record {
    is =
        step x y ∙ ap₂ (λ (m n : ℕ). op (x / 2) (y / 2) * 2 + f m n) (sym (low-one_if x)) (sym (low-one_if y))
        ∙ ap (λ (n : ℕ). op (x / 2) (y / 2) * 2 + n) (says (bit x 0) (bit y 0));
  }

  op_bit : (x y j : ℕ) → bit (op x y) j ≡ g (bit x j) (bit y j)
  unfolding bit
  op_bit x y zero = bit_zero (op_split x y)
  op_bit x y (suc j) = bit_suc (op_split x y) j ∙ op_bit (x / 2) (y / 2) j

and_says : (p q : Bool) → min (one_if p) (one_if q) ≡ one_if (p && q)
and_says false false = refl
and_says false true = refl
and_says true false = refl
and_says true true = refl

or_says : (p q : Bool) → max (one_if p) (one_if q) ≡ one_if (p || q)
or_says false false = refl
or_says false true = refl
or_says true false = refl
or_says true true = refl

xor_says : (p q : Bool) → differ (one_if p) (one_if q) ≡ one_if (differs p q)
xor_says false q = refl
xor_says true false = refl
xor_says true true = refl

pub and_bit : (x y j : ℕ) → bit (bit_and x y) j ≡ (bit x j && bit y j)
and_bit = op_bit bit_and min ◌&&◌ and_step and_says

pub or_bit : (x y j : ℕ) → bit (bit_or x y) j ≡ (bit x j || bit y j)
or_bit = op_bit bit_or max ◌||◌ or_step or_says

pub xor_bit : (x y j : ℕ) → bit (bit_xor x y) j ≡ differs (bit x j) (bit y j)
xor_bit = op_bit bit_xor differ differs xor_step xor_says

-- ---- not: `!x` on w bits is `(2 ^ w - 1) - x`

not_digit : (b : Bool) (x m : ℕ) → x < m → (m * 2 - 1) - (x * 2 + one_if b) ≡ ((m - 1) - x) * 2 + one_if (not b)
not_digit false x m h = omega arith
not_digit true x m h = omega arith

not_split : (w x : ℕ) → x < 2 ^ suc w → Split ((2 ^ suc w - 1) - x) ((2 ^ w - 1) - x / 2) (not (bit x 0))
not_split w x h = record {
  is = ap₂ (λ (m n : ℕ). (m - 1) - n) (pow-suc 2 w) (split x).is ∙ not_digit (bit x 0) (x / 2) (2 ^ w) (below_half w h);
}

pub not_bit : (w x j : ℕ) → x < 2 ^ w → j < w → bit ((2 ^ w - 1) - x) j ≡ not (bit x j)
unfolding bit
not_bit zero x j hx hj = absurd (omega arith)
not_bit (suc w) x zero hx hj = bit_zero (not_split w x hx)
not_bit (suc w) x (suc j) hx hj = bit_suc (not_split w x hx) j ∙ not_bit w (x / 2) j (below_half w hx) (le_of_suc-le-suc hj)

-- ---- the low w bits, and a shift up by one

mod_split : (w x : ℕ) → Split (x % 2 ^ suc w) (x / 2 % 2 ^ w) (bit x 0)
mod_split w x = record {
  is = ap (λ (n : ℕ). x % 2 ^ n) (sym (add-one w)) ∙ mod-pow-add x w 1 ∙ ap (λ (n : ℕ). x / 2 % 2 ^ w * 2 + n) (sym (low-one_if x));
}

pub mod_bit : (w x j : ℕ) → j < w → bit (x % 2 ^ w) j ≡ bit x j
unfolding bit
mod_bit zero x j hj = absurd (omega arith)
mod_bit (suc w) x zero hj = bit_zero (mod_split w x)
mod_bit (suc w) x (suc j) hj = bit_suc (mod_split w x) j ∙ mod_bit w (x / 2) j (le_of_suc-le-suc hj)

-- a row moved up by one place, with p in bit 0
abbrev pub pushed : Bool → (ℕ → Bool) → ℕ → Bool
pushed p x zero = p
pushed p x (suc j) = x j

-- with a bit p coming in from below, as the top bit of the word below does
pub push_bit : (p : Bool) (x j : ℕ) → bit (x * 2 + one_if p) j ≡ pushed p (bit x) j
push_bit p x zero = bit_zero {q = x} record { is = refl }
push_bit p x (suc j) = bit_suc {b = p} record { is = refl } j

pub shl_bit : (w x j : ℕ) → j < w → bit (x * 2 % 2 ^ w) j ≡ pushed false (bit x) j
shl_bit w x j h = mod_bit w (x * 2) j h ∙ ap (λ (n : ℕ). bit n j) (sym (add-zero (x * 2))) ∙ push_bit false x j

-- ---- the difference of two rows, with a borrow c coming in

-- one digit: of r = x - y - c modulo a power of 2 it gives r's bit 0, and the same equation for the halves with the borrow that it leaves
sub_digit : (x₀ y₀ c r₀ : Bool) (r x y p q : ℕ) → (r * 2 + one_if r₀) + (y * 2 + one_if y₀) + one_if c + p * 2 ≡ (x * 2 + one_if x₀) + q * 2
    → (r₀ ≡ differs x₀ (differs y₀ c)) × (r + y + one_if (lend x₀ y₀ c) + p ≡ x + q)
sub_digit false false false false r x y p q e = (refl, omega arith)
sub_digit false false false true r x y p q e = absurd (omega arith)
sub_digit false false true false r x y p q e = absurd (omega arith)
sub_digit false false true true r x y p q e = (refl, omega arith)
sub_digit false true false false r x y p q e = absurd (omega arith)
sub_digit false true false true r x y p q e = (refl, omega arith)
sub_digit false true true false r x y p q e = (refl, omega arith)
sub_digit false true true true r x y p q e = absurd (omega arith)
sub_digit true false false false r x y p q e = absurd (omega arith)
sub_digit true false false true r x y p q e = (refl, omega arith)
sub_digit true false true false r x y p q e = (refl, omega arith)
sub_digit true false true true r x y p q e = absurd (omega arith)
sub_digit true true false false r x y p q e = (refl, omega arith)
sub_digit true true false true r x y p q e = absurd (omega arith)
sub_digit true true true false r x y p q e = absurd (omega arith)
sub_digit true true true true r x y p q e = (refl, omega arith)

-- r is x - y - c modulo 2 ^ w: they differ by multiples of it. A record, so that all but the proof is found from it.
pub record Sub (w : ℕ) (c : Bool) (x y r p q : ℕ) : Type 0 where
  pub is : r + y + one_if c + p * 2 ^ w ≡ x + q * 2 ^ w

shift_pow : (p w : ℕ) → p * 2 ^ suc w ≡ p * 2 ^ w * 2
shift_pow p w = ap (λ (n : ℕ). p * n) (pow-suc 2 w) ∙ sym (mul_assoc p (2 ^ w) 2)

sub_step : {w x y r p q : ℕ} {c : Bool} → Sub (suc w) c x y r p q
    → (bit r 0 ≡ differs (bit x 0) (differs (bit y 0) c)) × Sub w (lend (bit x 0) (bit y 0) c) (x / 2) (y / 2) (r / 2) p q
sub_step {w} {x} {y} {r} {p} {q} {c} e =
    let d = sub_digit (bit x 0) (bit y 0) c (bit r 0) (r / 2) (x / 2) (y / 2) (p * 2 ^ w) (q * 2 ^ w)
    (rw (← (split x).is, ← (split y).is, ← (split r).is, ← (shift_pow p w), ← (shift_pow q w)) e.is) in
    (d.0, record { is = d.1 })

-- the borrow after one more digit at the low end
pub borrow_suc : (c : Bool) (x y : ℕ → Bool) (j : ℕ) → borrow c x y (suc j) ≡ borrow (lend (x 0) (y 0) c) (λ k. x (suc k)) (λ k. y (suc k)) j
unfolding borrow
borrow_suc c x y zero = refl
borrow_suc c x y (suc j) = ap (lend (x (suc j)) (y (suc j))) (borrow_suc c x y j)

-- the borrow after m digits and n more: the borrow of the first word is the borrow into the second
pub borrow_add : (c : Bool) (x y : ℕ → Bool) (m n : ℕ) → borrow c x y (m + n) ≡ borrow (borrow c x y m) (λ k. x (m + k)) (λ k. y (m + k)) n
unfolding borrow
borrow_add c x y m zero = ap (borrow c x y) (add-zero m)
borrow_add c x y m (suc n) = ap (borrow c x y) (add-suc m n) ∙ ap (lend (x (m + n)) (y (m + n))) (borrow_add c x y m n)

pub sub_bit : (w x y r p q : ℕ) (c : Bool) → Sub w c x y r p q → (j : ℕ) → j < w → bit r j ≡ minus c (bit x) (bit y) j
unfolding bit minus
sub_bit zero x y r p q c e j hj = absurd (omega arith)
sub_bit (suc w) x y r p q c e zero hj = (sub_step e).0
sub_bit (suc w) x y r p q c e (suc j) hj =
    sub_bit w (x / 2) (y / 2) (r / 2) p q (lend (bit x 0) (bit y 0) c) (sub_step e).1 j (le_of_suc-le-suc hj)
    ∙ ap (λ (b : Bool). differs (bit x (suc j)) (differs (bit y (suc j)) b)) (sym (borrow_suc c (bit x) (bit y) j))

one_if_inj : (b o : Bool) → one_if b ≡ one_if o → b ≡ o
one_if_inj false false e = refl
one_if_inj false true e = absurd (omega arith)
one_if_inj true false e = absurd (omega arith)
one_if_inj true true e = refl

-- the borrow that a whole word leaves
pub sub_out : (w x y r : ℕ) (c o : Bool) → x < 2 ^ w → y < 2 ^ w → r < 2 ^ w → Sub w c x y r 0 (one_if o) → borrow c (bit x) (bit y) w ≡ o
unfolding borrow bit
sub_out zero x y r c o hx hy hr e = one_if_inj c o (omega (arith, e.is))
sub_out (suc w) x y r c o hx hy hr e =
    borrow_suc c (bit x) (bit y) w
    ∙ sub_out w (x / 2) (y / 2) (r / 2) (lend (bit x 0) (bit y 0) c) o (below_half w hx) (below_half w hy) (below_half w hr) (sub_step e).1

-- x - y as `wrap_sub` has it
pub wrap_sub-is : (w x y : ℕ) → y < 2 ^ w → Sub w false x y (wrap_sub w x y) ((x + (2 ^ w - y)) / 2 ^ w) 1
wrap_sub-is w x y h = record { is = omega (arith, div-add-mod' (x + (2 ^ w - y)) (2 ^ w)) }

-- it is the number that y added to wraps back to x
pub wrapped : (x y r : ℕ) → y < 2 ^ 64 → r < 2 ^ 64 → (r + y) % 2 ^ 64 ≡ x → r ≡ wrap_sub 64 x y
wrapped x y r hy hr e = omega arith

pub wrap_sub-bit : (w x y j : ℕ) → y < 2 ^ w → j < w → bit (wrap_sub w x y) j ≡ minus false (bit x) (bit y) j
wrap_sub-bit w x y j h hj = sub_bit w x y (wrap_sub w x y) ((x + (2 ^ w - y)) / 2 ^ w) 1 false (wrap_sub-is w x y h) j hj

-- ---- no bits, and one

pub none-bit : (j : ℕ) → bit 0 j ≡ false
unfolding bit
none-bit zero = refl
none-bit (suc j) = none-bit j

-- a number of w bits that has none set is 0
pub no_bits : (w x : ℕ) → x < 2 ^ w → ((j : ℕ) → j < w → bit x j ≡ false) → x ≡ 0
unfolding bit
no_bits zero x l h = omega arith
no_bits (suc w) x l h =
    let r = no_bits w (x / 2) (below_half w l) (λ j q. h (suc j) (omega arith)) in
    let e : x % 2 ≡ 0 = sym (low-one_if x) ∙ ap one_if (h 0 (omega arith)) in
    omega arith

pub power_bit : (k j : ℕ) → bit (2 ^ k) j ≡ eqb k j
unfolding bit
power_bit zero zero = refl
power_bit zero (suc j) = none-bit j ∙ sym (eqb-zero-suc j)
power_bit (suc k) zero = bit_zero {q = 2 ^ k} {b = false} record { is = let z : 2 ^ suc k ≡ 2 ^ k * 2 + 0 = omega arith in z } ∙ sym (eqb-suc-zero k)
power_bit (suc k) (suc j) = bit_suc {q = 2 ^ k} {b = false} record { is = let z : 2 ^ suc k ≡ 2 ^ k * 2 + 0 = omega arith in z } j ∙ power_bit k j ∙ sym (eqb-suc-suc k j)
