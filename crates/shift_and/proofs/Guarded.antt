-- A flood with one operation less. The borrow of a block is stopped at the bit after its last, `guard`, in place of the last itself; then no xor is
-- needed. It is the flood of the formula wherever no such bit is also the bit before the next block: two blocks are never one position apart.
-- Assumes nothing.
use Rattle.std.proofs.Common.{◌≡◌, ℕ, zero, suc, ◌+◌, ◌-◌, ◌*◌, ◌/◌, ◌%◌, ◌^◌, ◌<◌, ◌≤◌, Bool, true, false, not, ◌&&◌, ◌||◌, T, sym, refl, ap, ◌∙◌, subst, ap₂, lt_of_le_of_lt, mod-lt, arith, pow_pos}
use native.Mathlib.Decide.{dec_lt}
use lib.Bits.{bit_and, bit_or, and_le_l, or_lt}
use Rattle.shift_and.specs.Bit.{differs, bit, lend, borrow, minus}
use Rattle.shift_and.specs.ForwardStep.{wrap_sub, flood, block_starts, block_ends}
use Rattle.shift_and.proofs.Digits.{and_bit, or_bit, not_bit, shl_bit, pushed, bit-above, wrap_sub-bit}
use Rattle.shift_and.proofs.DisjointBits.{same_bits, apart}
use Rattle.shift_and.proofs.Closure.{closed, Blocks, before, closed_is, flood-bit, blocks}
use Rattle.shift_and.proofs.Unchanged.{flood-lt}

never : true ≡ false → ⊥
never p = subst (λ (b : Bool). T b) p tt

and-false : (b : Bool) → (b && false) ≡ false
and-false false = refl
and-false true = refl

-- ---- one bit, as in `Closure`; g is the guard at j. The borrow into j is `(a || g) && not p`.

lend_guarded : (d a a' p g : Bool) → (g && (a' && not a)) ≡ false → (g && a) ≡ false
    → lend (d || g) (a' && not a) ((a || g) && not p) ≡ ((a' || (a && not a')) && not (d || (a && p)))
lend_guarded false false false p false h k = refl
lend_guarded false false true p false h k = refl
lend_guarded true false false p false h k = refl
lend_guarded true false true p false h k = refl
lend_guarded false true false false false h k = refl
lend_guarded false true false true false h k = refl
lend_guarded false true true false false h k = refl
lend_guarded false true true true false h k = refl
lend_guarded true true false p false h k = refl
lend_guarded true true true p false h k = refl
lend_guarded false false false p true h k = refl
lend_guarded true false false p true h k = refl
lend_guarded d false true p true h k = absurd (never h)
lend_guarded d true a' p true h k = absurd (never k)

-- of `d | (a & !(r - i))`, where r is `d | guard`
gain_guarded : (d a a' p g : Bool) → (g && a) ≡ false
    → (d || (a && not (differs (d || g) (differs (a' && not a) ((a || g) && not p))))) ≡ (d || (a && p))
gain_guarded true a a' p g k = refl
gain_guarded false false a' p g k = refl
gain_guarded false true false false false k = refl
gain_guarded false true false true false k = refl
gain_guarded false true true false false k = refl
gain_guarded false true true true false k = refl
gain_guarded false true a' p true k = absurd (never k)

-- ---- a row of bits

module _ (d a i f g : ℕ → Bool) (h : Blocks a i f) (g-zero : g 0 ≡ false) (g-suc : (j : ℕ) → g (suc j) ≡ f j) (free : (j : ℕ) → (g j && i j) ≡ false) where
  -- a guard is not optional
  off : (j : ℕ) → (g j && a j) ≡ false
  off zero = rw g-zero refl
  off (suc j) = rw (g-suc j, h.ends j) (past (a j) (a (suc j)))
    where
      past : (p q : Bool) → ((p && not q) && q) ≡ false
      past false q = refl
      past true false = refl
      past true true = refl

  borrow_guarded : (j : ℕ) → borrow false (λ k. d k || g k) i j ≡ ((a j || g j) && not (before d a j))
  unfolding borrow before
  borrow_guarded zero = rw (h.low, g-zero) refl
  borrow_guarded (suc j) =
      rw (g-suc j, h.ends j, h.starts j, borrow_guarded j, closed_is d a h.low j)
      (lend_guarded (d j) (a j) (a (suc j)) (before d a j) (g j) (rw (← h.starts j) (free j)) (off j))

  pub guarded_row : (j : ℕ) → (d j || (a j && not (minus false (λ k. d k || g k) i j))) ≡ closed d a j
  unfolding minus
  guarded_row j = rw (closed_is d a h.low j, borrow_guarded j, h.starts j) (gain_guarded (d j) (a j) (a (suc j)) (before d a j) (g j) (off j))

-- the difference at j looks at no bit above j
borrow-below : (x x' y : ℕ → Bool) (j : ℕ) → ((k : ℕ) → k < j → x k ≡ x' k) → borrow false x y j ≡ borrow false x' y j
unfolding borrow
borrow-below x x' y zero h = refl
borrow-below x x' y (suc j) h =
    ap₂ (λ (p q : Bool). lend p (y j) q) (h j (omega arith)) (borrow-below x x' y j (λ k l. h k (omega arith)))

minus-below : (x x' y : ℕ → Bool) (j : ℕ) → ((k : ℕ) → k ≤ j → x k ≡ x' k) → minus false x y j ≡ minus false x' y j
unfolding minus
minus-below x x' y j h = ap₂ (λ (p q : Bool). differs p (differs (y j) q)) (h j (omega arith)) (borrow-below x x' y j (λ k l. h k (omega arith)))

-- ---- a word of w bits

-- the bit after each block's last
abbrev pub guards : (w a : ℕ) → ℕ
guards w a = block_ends w a * 2 % 2 ^ w

module _ (w d a : ℕ) (hd : d < 2 ^ w) (ha : a < 2 ^ w) (low : bit a 0 ≡ false) (free : bit_and (guards w a) (block_starts w a) ≡ 0) where
  i : ℕ
  i = block_starts w a

  -- the guards, as a row that no word ends
  after : ℕ → Bool
  after = pushed false (bit (block_ends w a))

  i_lt : i < 2 ^ w
  unfolding i
  i_lt = lt_of_le_of_lt (and_le_l (a / 2) ((2 ^ w - 1) - a)) (omega arith)

  after_free : (j : ℕ) → (after j && bit i j) ≡ false
  unfolding after i
  after_free j = pick (dec_lt j w)
    where
      pick : Dec (j < w) → (pushed false (bit (block_ends w a)) j && bit (block_starts w a) j) ≡ false
      pick (yes l) = rw (← shl_bit w (block_ends w a) j l) (apart (guards w a) (block_starts w a) free j)
      pick (no n) = rw (bit-above w (block_starts w a) j i_lt (omega arith)) (and-false (pushed false (bit (block_ends w a)) j))

  difference : (j : ℕ) → j < w → bit (wrap_sub w (bit_or d (guards w a)) i) j ≡ minus false (λ k. bit d k || after k) (bit i) j
  unfolding after i
  difference j hj =
      wrap_sub-bit w (bit_or d (guards w a)) (block_starts w a) j i_lt hj
      ∙ minus-below (bit (bit_or d (guards w a))) (λ k. bit d k || pushed false (bit (block_ends w a)) k) (bit (block_starts w a)) j
      (λ k l. or_bit d (guards w a) k ∙ ap (λ (b : Bool). bit d k || b) (shl_bit w (block_ends w a) k (lt_of_le_of_lt l hj)))

  pub flood_guarded : bit_or d (bit_and a ((2 ^ w - 1) - wrap_sub w (bit_or d (guards w a)) (block_starts w a))) ≡ flood w d a (block_starts w a) (block_ends w a)
  unfolding i after
  flood_guarded =
      let r : ℕ = wrap_sub w (bit_or d (guards w a)) (block_starts w a) in
      let row : Blocks (bit a) (bit (block_starts w a)) (bit (block_ends w a)) = blocks w a ha low in
      same_bits w (bit_or d (bit_and a ((2 ^ w - 1) - r))) (flood w d a (block_starts w a) (block_ends w a))
      (or_lt w d (bit_and a ((2 ^ w - 1) - r)) hd (lt_of_le_of_lt (and_le_l a ((2 ^ w - 1) - r)) ha))
      (flood-lt w d a (block_starts w a) (block_ends w a) hd ha)
      (λ j hj.
      let n : bit ((2 ^ w - 1) - r) j ≡ not (minus false (λ k. bit d k || pushed false (bit (block_ends w a)) k) (bit (block_starts w a)) j) =
      not_bit w r j (mod-lt (bit_or d (guards w a) + (2 ^ w - block_starts w a)) (pow_pos w)) hj ∙ ap not (difference j hj) in
      let e : bit (bit_or d (bit_and a ((2 ^ w - 1) - r))) j ≡ closed (bit d) (bit a) j =
      simp (or_bit, and_bit, n) (guarded_row (bit d) (bit a) (bit (block_starts w a)) (bit (block_ends w a)) (pushed false (bit (block_ends w a))) row refl (λ k. refl) after_free j) in
      e ∙ sym (flood-bit w d a (block_starts w a) (block_ends w a) i_lt row j hj))
