-- Where the flood and the move change nothing, and the move of an odd word. Assumes nothing.
use Rattle.std.proofs.Common.{◌≡◌, ℕ, zero, suc, ◌-◌, ◌*◌, ◌/◌, ◌%◌, ◌^◌, ◌<◌, Bool, true, false, not, ◌&&◌, ◌||◌, sym, refl, ap, ◌∙◌, lt_of_le_of_lt, arith}
use lib.Bits.{bit_and, bit_or, and_le_l, and_le_r, and_zero_l, or_zero_r, or_lt}
use Rattle.model.specs.Occurrence.{one_if}
use Rattle.shift_and.specs.Bit.{bit}
use Rattle.shift_and.specs.ForwardStep.{move, flood, block_starts, block_ends}
use Rattle.shift_and.proofs.Digits.{low-one_if, bit-above, and_bit, or_bit, none-bit}
use Rattle.shift_and.proofs.DisjointBits.{same_bits, apart, and_none}
use Rattle.shift_and.proofs.Closure.{closed, Blocks, flood-bit, blocks}

-- ---- the flood

-- nothing is optional
pub flood-none : (w d i f : ℕ) → flood w d 0 i f ≡ d
unfolding flood
flood-none w d i f = rw (and_zero_l, or_zero_r)

pub flood-lt : (w d a i f : ℕ) → d < 2 ^ w → a < 2 ^ w → flood w d a i f < 2 ^ w
unfolding flood
flood-lt w d a i f hd ha = or_lt w d _ hd (lt_of_le_of_lt (and_le_l a _) ha)

-- one bit: d, a are the bits at j, d', a' those at j + 1; d touches neither a block nor the bit before one
quiet : (d a d' a' : Bool) → (d && (a || (a' && not a))) ≡ false → (d' || (a' && d)) ≡ d'
quiet d a true a' e = refl
quiet d a false false e = refl
quiet false a false true e = refl
quiet true true false true e = e
quiet true false false true e = e

closed_quiet : (d a i f : ℕ → Bool) → Blocks a i f → ((j : ℕ) → (d j && (a j || i j)) ≡ false) → (j : ℕ) → closed d a j ≡ d j
unfolding closed
closed_quiet d a i f h e zero = refl
closed_quiet d a i f h e (suc j) = rw (closed_quiet d a i f h e j) (quiet (d j) (a j) (d (suc j)) (a (suc j)) (rw (← h.starts j) (e j)))

-- An odd word that touches neither a block nor the bit before one stays as it is. (Odd: so position 0 is not optional, or it would touch.)
pub flood_still : (w d a : ℕ) → d < 2 ^ w → a < 2 ^ w → bit d 0 ≡ true → bit_and d (bit_or a (block_starts w a)) ≡ 0
    → flood w d a (block_starts w a) (block_ends w a) ≡ d
flood_still w d a hd ha odd e =
    let t : (j : ℕ) → (bit d j && (bit a j || bit (block_starts w a) j)) ≡ false =
    λ j. ap (λ (b : Bool). bit d j && b) (sym (or_bit a (block_starts w a) j)) ∙ apart d (bit_or a (block_starts w a)) e j in
    let low : bit a 0 ≡ false = first (bit d 0) (bit a 0) (bit (block_starts w a) 0) odd (t 0) in
    let l : block_starts w a < 2 ^ w = lt_of_le_of_lt (and_le_l (a / 2) ((2 ^ w - 1) - a)) (omega arith) in
    same_bits w (flood w d a (block_starts w a) (block_ends w a)) d (flood-lt w d a (block_starts w a) (block_ends w a) hd ha) hd
    (λ j hj. flood-bit w d a (block_starts w a) (block_ends w a) l (blocks w a ha low) j hj
    ∙ closed_quiet (bit d) (bit a) (bit (block_starts w a)) (bit (block_ends w a)) (blocks w a ha low) t j)
  where
    first : (x y z : Bool) → x ≡ true → (x && (y || z)) ≡ false → y ≡ false
    first true true z p q = q
    first true false z p q = refl
    first false false z p q = refl
    first false true z p q = sym p

-- ---- the move

pub move-lt : (w d b s k : ℕ) → b < 2 ^ w → s < 2 ^ w → k < 2 ^ w → move w d b s k < 2 ^ w
unfolding move
move-lt w d b s k hb hs h =
    or_lt w (bit_or (bit_and (d * 2 % 2 ^ w) b) (bit_and d s)) k
    (or_lt w (bit_and (d * 2 % 2 ^ w) b) (bit_and d s) (lt_of_le_of_lt (and_le_r (d * 2 % 2 ^ w) b) hb) (lt_of_le_of_lt (and_le_r d s) hs)) h

pub true_right : (b : Bool) → (b || true) ≡ true
true_right false = refl
true_right true = refl

pub move-odd : (w d b s : ℕ) → bit (move w d b s 1) 0 ≡ true
unfolding move bit
move-odd w d b s =
    or_bit (bit_or (bit_and (d * 2 % 2 ^ w) b) (bit_and d s)) 1 0 ∙ true_right (bit (bit_or (bit_and (d * 2 % 2 ^ w) b) (bit_and d s)) 0)

-- b meets neither p nor, where r is set, h
not_up : (b p q : Bool) → (b && (p || q)) ≡ false → (p && b) ≡ false
not_up b false q e = refl
not_up false true q e = refl
not_up true true q e = e

not_kept : (b p h r : Bool) → (b && (p || (h && r))) ≡ false → (h && (b && r)) ≡ false
not_kept b p false r e = refl
not_kept false p true r e = refl
not_kept true p true false e = refl
not_kept true true true true e = e
not_kept true false true true e = e

-- an entry that has no bit of what d can go to, or stay at, moves d to bit 0 alone
pub move-none : (d b r : ℕ) → bit_and b (bit_or (d * 2 % 2 ^ 64) (bit_and d r)) ≡ 0 → move 64 d b (bit_and b r) 1 ≡ 1
unfolding move
move-none d b r e =
    let t : (j : ℕ) → (bit b j && (bit (d * 2 % 2 ^ 64) j || (bit d j && bit r j))) ≡ false =
    λ j. simp (← or_bit, ← and_bit) (ap (λ (n : ℕ). bit n j) e ∙ none-bit j) in
    let u : bit_and (d * 2 % 2 ^ 64) b ≡ 0 =
    and_none (d * 2 % 2 ^ 64) b (λ j. not_up (bit b j) (bit (d * 2 % 2 ^ 64) j) (bit d j && bit r j) (t j)) in
    let k : bit_and d (bit_and b r) ≡ 0 =
    and_none d (bit_and b r) (λ j. simp and_bit (not_kept (bit b j) (bit (d * 2 % 2 ^ 64) j) (bit d j) (bit r j) (t j))) in
    rw (u, k)

-- ---- odd words

pub odd-bit : (x : ℕ) → x % 2 ≡ 1 → bit x 0 ≡ true
unfolding bit
odd-bit x e = rw e refl

pub bit-odd : (x : ℕ) → bit x 0 ≡ true → x % 2 ≡ 1
bit-odd x e = sym (low-one_if x) ∙ ap one_if e

pub one_bit : (j : ℕ) → bit 1 (suc j) ≡ false
one_bit j = bit-above 1 1 (suc j) (omega arith) (omega arith)
