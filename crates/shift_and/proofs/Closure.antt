-- The flood lemma: the machine's formula for passing activity over optional positions, `flood`, is `closed`, bit for bit.
--
-- First over rows of bits, where nothing is counted and no word ends: `flood-row`. It walks the bits from the lowest, and all that it knows of the
-- subtraction is the borrow into bit j, which is set where j is optional and the state before it is not reached (`borrow-is`). Each step is one
-- equation between truth values, by cases. Then over words of w bits, by the laws of `Digits.antt`. Assumes nothing.
use Rattle.std.proofs.Common.{◌≡◌, ℕ, zero, suc, ◌+◌, ◌-◌, ◌/◌, ◌^◌, ◌<◌, ◌≤◌, Bool, true, false, not, ◌&&◌, ◌||◌, refl, ap, ◌∙◌, ap₂, le_trans, le_refl, lt_of_le_of_lt, mod-lt, arith, pow_pos}
use mathlib.Core.Path.{fun_ext}
use native.Mathlib.Nat.{le-suc}
use native.Mathlib.Decide.{dec_lt}
use lib.Bits.{bit_or, and_le_l}
use Rattle.shift_and.specs.Bit.{differs, bit, lend, borrow, minus}
use Rattle.shift_and.specs.ForwardStep.{wrap_sub, move, flood, advance, block_starts, block_ends, opening}
use Rattle.shift_and.proofs.Digits.{and_bit, or_bit, xor_bit, not_bit, shl_bit, bit-above, wrap_sub-bit}

-- ---- what the formula is to compute

-- The states that are active once each optional position, a bit of a, has let activity pass over it: state j is active, or j is optional and
-- the state before it is reached. (State 0 has none before it.)
unfoldable pub closed : (ℕ → Bool) → (ℕ → Bool) → ℕ → Bool
closed d a zero = d zero
closed d a (suc j) = d (suc j) || (a (suc j) && closed d a j)

-- i marks the bit before each maximal run of a, and f the last bit of each
pub record Blocks (a i f : ℕ → Bool) : Type 0 where
  pub low : a 0 ≡ false
  pub starts : (j : ℕ) → i j ≡ (a (suc j) && not (a j))
  pub ends : (j : ℕ) → f j ≡ (a j && not (a (suc j)))

-- bit j of the states after one symbol, before optional positions are passed over: a state moves up where b has the symbol, and stays where s has it
unfoldable pub moved : (ℕ → Bool) → (ℕ → Bool) → (ℕ → Bool) → (ℕ → Bool) → ℕ → Bool
moved d b s k zero = (d zero && s zero) || k zero
moved d b s k (suc j) = (d j && b (suc j)) || (d (suc j) && s (suc j)) || k (suc j)

-- ---- one bit. d and a are the bits at j of the states and of the optional positions, a' is that of the optional positions at j + 1, and p says that
-- the state before j is reached. Then the bits at j of f and i are `a && not a'` and `a' && not a`, and the borrow into j is `a && not p`.

lend-is : (d a a' p : Bool) → lend (d || (a && not a')) (a' && not a) (a && not p) ≡ (a' && not (d || (a && p)))
lend-is false false false p = refl
lend-is false false true p = refl
lend-is true false false p = refl
lend-is true false true p = refl
lend-is false true false p = refl
lend-is false true true false = refl
lend-is false true true true = refl
lend-is true true false p = refl
lend-is true true true p = refl

-- the bit that the formula gives: of `d | (a & (!(g - i) ^ g))`, where g is `d | f`
gain_is : (d a a' p : Bool)
    → (d || (a && differs (not (differs (d || (a && not a')) (differs (a' && not a) (a && not p)))) (d || (a && not a')))) ≡ (d || (a && p))
gain_is true a a' p = refl
gain_is false false a' p = refl
gain_is false true false false = refl
gain_is false true false true = refl
gain_is false true true false = refl
gain_is false true true true = refl

or-false : (b : Bool) → b ≡ (b || false)
or-false false = refl
or-false true = refl

-- ---- a row of bits

-- the state before j is reached
unfoldable pub before : (d a : ℕ → Bool) → ℕ → Bool
before d a zero = false
before d a (suc j) = closed d a j

pub closed_is : (d a : ℕ → Bool) → a 0 ≡ false → (j : ℕ) → closed d a j ≡ (d j || (a j && before d a j))
unfolding closed before
closed_is d a low zero = rw low (or-false (d 0))
closed_is d a low (suc j) = refl

module _ (d a i f : ℕ → Bool) (h : Blocks a i f) where
  row : ℕ → Bool
  row j = d j || f j

  borrow-is : (j : ℕ) → borrow false row i j ≡ (a j && not (before d a j))
  unfolding borrow before row
  borrow-is zero = rw h.low refl
  borrow-is (suc j) = rw (h.ends j, h.starts j, borrow-is j, closed_is d a h.low j) (lend-is (d j) (a j) (a (suc j)) (before d a j))

  pub flood-row : (j : ℕ) → (d j || (a j && differs (not (minus false (λ k. d k || f k) i j)) (d j || f j))) ≡ closed d a j
  unfolding minus row
  flood-row j = rw (closed_is d a h.low j, borrow-is j, h.ends j, h.starts j) (gain_is (d j) (a j) (a (suc j)) (before d a j))

-- ---- a word of w bits

pub flood-bit : (w d a i f : ℕ) → i < 2 ^ w → Blocks (bit a) (bit i) (bit f) → (j : ℕ) → j < w → bit (flood w d a i f) j ≡ closed (bit d) (bit a) j
unfolding flood
flood-bit w d a i f hi h j hj =
    let g : ℕ = bit_or d f in
    let e : bit (wrap_sub w g i) j ≡ minus false (λ k. bit d k || bit f k) (bit i) j =
    wrap_sub-bit w g i j hi hj ∙ ap (λ (x : ℕ → Bool). minus false x (bit i) j) (fun_ext (or_bit d f)) in
    let n : bit ((2 ^ w - 1) - wrap_sub w g i) j ≡ not (minus false (λ k. bit d k || bit f k) (bit i) j) =
    not_bit w (wrap_sub w g i) j (mod-lt (g + (2 ^ w - i)) (pow_pos w)) hj ∙ ap not e in
    simp (or_bit, and_bit, xor_bit, n) (flood-row (bit d) (bit a) (bit i) (bit f) h j)

-- ---- the masks

-- the two masks of the optional positions a, as the machine makes them, are its blocks' starts and ends
blocks_at : (w a j : ℕ) → a < 2 ^ w → (bit (block_starts w a) j ≡ (bit a (suc j) && not (bit a j))) × (bit (block_ends w a) j ≡ (bit a j && not (bit a (suc j))))
unfolding bit
blocks_at w a j h = pick (dec_lt j w)
  where
    pick : Dec (j < w) → (bit (block_starts w a) j ≡ (bit a (suc j) && not (bit a j))) × (bit (block_ends w a) j ≡ (bit a j && not (bit a (suc j))))
    pick (yes l) = (
      and_bit (a / 2) ((2 ^ w - 1) - a) j ∙ ap (λ (b : Bool). bit (a / 2) j && b) (not_bit w a j h l),
      and_bit a ((2 ^ w - 1) - a / 2) j ∙ ap (λ (b : Bool). bit a j && b) (not_bit w (a / 2) j (omega arith) l),
    )
    pick (no n) =
        let g : w ≤ j = omega arith in
        let e : bit a j ≡ false = bit-above w a j h g in
        let e' : bit (a / 2) j ≡ false = bit-above w (a / 2) j (omega arith) g in
        (simp (and_bit, e'), simp (and_bit, e))

pub blocks : (w a : ℕ) → a < 2 ^ w → bit a 0 ≡ false → Blocks (bit a) (bit (block_starts w a)) (bit (block_ends w a))
blocks w a h e = record { low = e; starts = λ j. (blocks_at w a j h).0; ends = λ j. (blocks_at w a j h).1 }

-- ---- the whole step

pub move-bit : (w d b s k j : ℕ) → j < w → bit (move w d b s k) j ≡ moved (bit d) (bit b) (bit s) (bit k) j
unfolding move moved
move-bit w d b s k zero h = simp (or_bit, and_bit, shl_bit w d 0 h)
move-bit w d b s k (suc j) h = simp (or_bit, and_bit, shl_bit w d (suc j) h)

-- `closed` at j looks at no bit above j
closed_below : (d e a : ℕ → Bool) (j : ℕ) → ((k : ℕ) → k ≤ j → d k ≡ e k) → closed d a j ≡ closed e a j
unfolding closed
closed_below d e a zero h = h 0 (le_refl 0)
closed_below d e a (suc j) h =
    ap₂ (λ (p q : Bool). p || (a (suc j) && q)) (h (suc j) (le_refl (suc j))) (closed_below d e a j (λ k l. h k (le_trans l (le-suc j))))

pub advance-bit : (w d b s k a i f : ℕ) → i < 2 ^ w → Blocks (bit a) (bit i) (bit f) → (j : ℕ) → j < w
    → bit (advance w d b s k a i f) j ≡ closed (moved (bit d) (bit b) (bit s) (bit k)) (bit a) j
unfolding advance
advance-bit w d b s k a i f hi h j hj =
    flood-bit w (move w d b s k) a i f hi h j hj
    ∙ closed_below (bit (move w d b s k)) (moved (bit d) (bit b) (bit s) (bit k)) (bit a) j (λ m l. move-bit w d b s k m (lt_of_le_of_lt l hj))

-- The step with the masks that `block_starts` and `block_ends` make, on words of any width: bit j of the new states is set where a state that has
-- moved, or stayed, reaches j over optional positions alone.
pub step_bit_lem : (w d b s k a : ℕ) → a < 2 ^ w → bit a 0 ≡ false → (j : ℕ) → j < w
    → bit (advance w d b s k a (block_starts w a) (block_ends w a)) j ≡ closed (moved (bit d) (bit b) (bit s) (bit k)) (bit a) j
step_bit_lem w d b s k a h e j hj =
    let l : block_starts w a < 2 ^ w = lt_of_le_of_lt (and_le_l (a / 2) ((2 ^ w - 1) - a)) (omega arith) in
    advance-bit w d b s k a (block_starts w a) (block_ends w a) l (blocks w a h e) j hj

-- The opening word: what is reached from bit 0 over optional positions alone.
pub opening-bit : (w a : ℕ) → a < 2 ^ w → bit a 0 ≡ false → (j : ℕ) → j < w → bit (opening w a) j ≡ closed (bit 1) (bit a) j
unfolding opening
opening-bit w a h e j hj =
    let l : block_starts w a < 2 ^ w = lt_of_le_of_lt (and_le_l (a / 2) ((2 ^ w - 1) - a)) (omega arith) in
    flood-bit w 1 a (block_starts w a) (block_ends w a) l (blocks w a h e) j hj
