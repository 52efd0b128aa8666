-- States that the flood leaves as they are. Once a state has the opening state in it, a step may set all of that in place of bit 0, and only what lies outside
-- it can make a flood change anything. Assumes nothing.
use Rattle.std.proofs.Common.{◌≡◌, ℕ, zero, suc, ◌-◌, ◌*◌, ◌/◌, ◌%◌, ◌^◌, ◌<◌, ◌≤◌, Bool, true, false, not, ◌&&◌, ◌||◌, sym, refl, ap, ◌∙◌, ap₂, lt_of_le_of_lt, arith}
use native.Mathlib.Decide.{dec_lt}
use lib.Bits.{bit_and, bit_or, and_le_l, or_lt}
use Rattle.shift_and.specs.Bit.{bit}
use Rattle.shift_and.specs.ForwardStep.{move, flood, block_starts, block_ends, opening}
use Rattle.shift_and.proofs.Digits.{bit-above, and_bit, or_bit, not_bit}
use Rattle.shift_and.proofs.DisjointBits.{same-all, apart}
use Rattle.shift_and.proofs.Closure.{closed, Blocks, flood-bit, blocks}
use Rattle.shift_and.proofs.Unchanged.{flood-lt, one_bit}

-- ---- rows of bits

-- one bit: p and q are what is reached before it
in_suc : (d e a p q : Bool) → (d && not e) ≡ false → (p && not q) ≡ false → ((d || (a && p)) && not (e || (a && q))) ≡ false
in_suc true true a p q h k = refl
in_suc false true false p q h k = refl
in_suc false true true true q h k = refl
in_suc false true true false q h k = refl
in_suc true false false p q h k = h
in_suc true false true p true h k = refl
in_suc true false true p false h k = h
in_suc false false false p q h k = refl
in_suc false false true p q h k = k

again_suc : (d a p : Bool) → ((d || (a && p)) || (a && p)) ≡ (d || (a && p))
again_suc true a p = refl
again_suc false false p = refl
again_suc false true true = refl
again_suc false true false = refl

start_suc : (y o a k p : Bool) → (k && not p) ≡ false → ((y || (o || (a && k))) || (a && p)) ≡ ((y || o) || (a && p))
start_suc true o a k p h = refl
start_suc false true a k p h = refl
start_suc false false false k p h = refl
start_suc false false true false p h = refl
start_suc false false true true true h = refl
start_suc false false true true false h = h

quiet_suc : (x a k x' a' o : Bool) → (x && ((a || (a' && not a)) && not k)) ≡ false → ((o || (a' && k)) && not x') ≡ false → (x' || (a' && x)) ≡ x'
quiet_suc x a k true a' o h i = refl
quiet_suc x a k false false o h i = refl
quiet_suc false a k false true o h i = refl
quiet_suc true true false false true o h i = h
quiet_suc true false false false true o h i = h
quiet_suc true a true false true true h i = i
quiet_suc true a true false true false h i = i

-- what is reached from less is reached from more
closed_in : (d e a : ℕ → Bool) → ((j : ℕ) → (d j && not (e j)) ≡ false) → (j : ℕ) → (closed d a j && not (closed e a j)) ≡ false
unfolding closed
closed_in d e a h zero = h 0
closed_in d e a h (suc j) = in_suc (d (suc j)) (e (suc j)) (a (suc j)) (closed d a j) (closed e a j) (h (suc j)) (closed_in d e a h j)

closed_same : (d e a : ℕ → Bool) → ((j : ℕ) → d j ≡ e j) → (j : ℕ) → closed d a j ≡ closed e a j
unfolding closed
closed_same d e a h zero = h 0
closed_same d e a h (suc j) = ap₂ (λ (p q : Bool). p || (a (suc j) && q)) (h (suc j)) (closed_same d e a h j)

closed_again : (d a : ℕ → Bool) (j : ℕ) → closed (closed d a) a j ≡ closed d a j
unfolding closed
closed_again d a zero = refl
closed_again d a (suc j) =
    ap (λ (p : Bool). closed d a (suc j) || (a (suc j) && p)) (closed_again d a j) ∙ again_suc (d (suc j)) (a (suc j)) (closed d a j)

more : (y o : Bool) → (o && not (y || o)) ≡ false
more true true = refl
more true false = refl
more false true = refl
more false false = refl

-- all that is reached from o may be set in place of o
closed_start : (y o a : ℕ → Bool) (j : ℕ) → closed (λ (j : ℕ). y j || closed o a j) a j ≡ closed (λ (j : ℕ). y j || o j) a j
unfolding closed
closed_start y o a zero = refl
closed_start y o a (suc j) =
    ap (λ (p : Bool). (y (suc j) || closed o a (suc j)) || (a (suc j) && p)) (closed_start y o a j)
    ∙ start_suc (y (suc j)) (o (suc j)) (a (suc j)) (closed o a j) (closed (λ (j : ℕ). y j || o j) a j) (closed_in o (λ (j : ℕ). y j || o j) a (λ j. more (y j) (o j)) j)

-- x has what is reached from o, and touches no block, nor the bit before one, outside it
closed_quiet : (x o a i f : ℕ → Bool) → Blocks a i f → ((j : ℕ) → (closed o a j && not (x j)) ≡ false)
    → ((j : ℕ) → (x j && ((a j || i j) && not (closed o a j))) ≡ false) → (j : ℕ) → closed x a j ≡ x j
unfolding closed
closed_quiet x o a i f b h q zero = refl
closed_quiet x o a i f b h q (suc j) =
    ap (λ (p : Bool). x (suc j) || (a (suc j) && p)) (closed_quiet x o a i f b h q j)
    ∙ quiet_suc (x j) (a j) (closed o a j) (x (suc j)) (a (suc j)) (o (suc j)) (rw (← b.starts j) (q j)) (h (suc j))

-- ---- words

absorbed : (p q : Bool) → (p && q) ≡ q → (q && not p) ≡ false
absorbed true true h = refl
absorbed true false h = refl
absorbed false q h = rw (← h)

absorbs : (p q : Bool) → (q && not p) ≡ false → (p && q) ≡ q
absorbs true q h = refl
absorbs false true h = sym h
absorbs false false h = refl

-- k is in what has k beside it
pub has_beside : (y k : ℕ) → bit_and (bit_or y k) k ≡ k
has_beside y k = same-all (bit_and (bit_or y k) k) k (λ j. and_bit (bit_or y k) k j ∙ ap (λ (p : Bool). p && bit k j) (or_bit y k j) ∙ beside (bit y j) (bit k j))
  where
    beside : (p q : Bool) → ((p || q) && q) ≡ q
    beside true q = refl
    beside false true = refl
    beside false false = refl

-- the k may stand beside what a state keeps that has k in it
pub move_fold : (d b r k : ℕ) → bit_and d k ≡ k → bit_or (bit_and (d * 2 % 2 ^ 64) b) (bit_and d (bit_or (bit_and b r) k)) ≡ move 64 d b (bit_and b r) k
unfolding move
move_fold d b r k e = same-all (bit_or (bit_and (d * 2 % 2 ^ 64) b) (bit_and d (bit_or (bit_and b r) k))) (bit_or (bit_or (bit_and (d * 2 % 2 ^ 64) b) (bit_and d (bit_and b r))) k) go
  where
    fold : (p q s k : Bool) → (q && k) ≡ k → (p || (q && (s || k))) ≡ ((p || (q && s)) || k)
    fold true q s k h = refl
    fold false true s k h = refl
    fold false false s k h = h

    go : (j : ℕ) → bit (bit_or (bit_and (d * 2 % 2 ^ 64) b) (bit_and d (bit_or (bit_and b r) k))) j ≡ bit (bit_or (bit_or (bit_and (d * 2 % 2 ^ 64) b) (bit_and d (bit_and b r))) k) j
    go j =
        simp (or_bit, and_bit (d * 2 % 2 ^ 64) b, and_bit d (bit_or (bit_and b r) k), and_bit d (bit_and b r))
        (fold (bit (d * 2 % 2 ^ 64) j && bit b j) (bit d j) (bit (bit_and b r) j) (bit k j) (sym (and_bit d k j) ∙ ap (λ (n : ℕ). bit n j) e))

module _ (w a : ℕ) (ha : a < 2 ^ w) (low : bit a 0 ≡ false) where
  abbrev flooded_by : ℕ → ℕ
  flooded_by d = flood w d a (block_starts w a) (block_ends w a)

  starts-lt : block_starts w a < 2 ^ w
  starts-lt = lt_of_le_of_lt (and_le_l (a / 2) ((2 ^ w - 1) - a)) (omega arith)

  above : (d : ℕ) → d < 2 ^ w → (j : ℕ) → w ≤ j → closed (bit d) (bit a) j ≡ false
  unfolding closed
  above d hd zero h = bit-above w d 0 hd h
  above d hd (suc j) h = simp (bit-above w d (suc j) hd h, bit-above w a (suc j) ha h)

  flood-all : (d : ℕ) → d < 2 ^ w → (j : ℕ) → bit (flooded_by d) j ≡ closed (bit d) (bit a) j
  flood-all d hd j = pick (dec_lt j w)
    where
      pick : Dec (j < w) → bit (flooded_by d) j ≡ closed (bit d) (bit a) j
      pick (yes l) = flood-bit w d a (block_starts w a) (block_ends w a) starts-lt (blocks w a ha low) j l
      pick (no n) =
          let g : w ≤ j = omega arith in
          bit-above w (flooded_by d) j (flood-lt w d a (block_starts w a) (block_ends w a) hd ha) g ∙ sym (above d hd j g)

  pub flood-again : (d : ℕ) → d < 2 ^ w → flooded_by (flooded_by d) ≡ flooded_by d
  flood-again d hd =
      same-all (flooded_by (flooded_by d)) (flooded_by d) (λ j.
      flood-all (flooded_by d) (flood-lt w d a (block_starts w a) (block_ends w a) hd ha) j
      ∙ closed_same (bit (flooded_by d)) (closed (bit d) (bit a)) (bit a) (flood-all d hd) j
      ∙ closed_again (bit d) (bit a) j
      ∙ sym (flood-all d hd j))

  module _ (one : 1 < 2 ^ w) where
    start-bit : (j : ℕ) → bit (opening w a) j ≡ closed (bit 1) (bit a) j
    unfolding opening
    start-bit j = flood-all 1 one j

    pub start-lt : opening w a < 2 ^ w
    unfolding opening
    start-lt = flood-lt w 1 a (block_starts w a) (block_ends w a) one ha

    -- the opening state may be set in place of bit 0
    pub flood-start : (y : ℕ) → y < 2 ^ w → flooded_by (bit_or y (opening w a)) ≡ flooded_by (bit_or y 1)
    flood-start y hy =
        same-all (flooded_by (bit_or y (opening w a))) (flooded_by (bit_or y 1)) (λ j.
        flood-all (bit_or y (opening w a)) (or_lt w y (opening w a) hy start-lt) j
        ∙ closed_same (bit (bit_or y (opening w a))) (λ (j : ℕ). bit y j || closed (bit 1) (bit a) j) (bit a)
        (λ j. or_bit y (opening w a) j ∙ ap (λ (b : Bool). bit y j || b) (start-bit j)) j
        ∙ closed_start (bit y) (bit 1) (bit a) j
        ∙ sym (closed_same (bit (bit_or y 1)) (λ (j : ℕ). bit y j || bit 1 j) (bit a) (or_bit y 1) j)
        ∙ sym (flood-all (bit_or y 1) (or_lt w y 1 hy one) j))

    -- an odd state that the flood leaves as it is has the opening state in it
    pub start_in : (d : ℕ) → d < 2 ^ w → bit d 0 ≡ true → flooded_by d ≡ d → bit_and d (opening w a) ≡ opening w a
    start_in d hd odd e = same-all (bit_and d (opening w a)) (opening w a) (λ j. and_bit d (opening w a) j ∙ absorbs (bit d j) (bit (opening w a) j) (within j))
      where
        past : (p q : Bool) → q ≡ true → (p && not q) ≡ false
        past true q e = ap not e
        past false q e = refl

        first : (j : ℕ) → (bit 1 j && not (bit d j)) ≡ false
        first zero = past (bit 1 0) (bit d 0) odd
        first (suc j) = simp (one_bit j)

        within : (j : ℕ) → (bit (opening w a) j && not (bit d j)) ≡ false
        within j =
            ap₂ (λ (p q : Bool). p && not q) (start-bit j) (sym (ap (λ (n : ℕ). bit n j) e) ∙ flood-all d hd j)
            ∙ closed_in (bit 1) (bit d) (bit a) first j

    -- nothing outside the opening state touches a block
    pub flood_quiet : (x : ℕ) → x < 2 ^ w → bit_and x (opening w a) ≡ opening w a
        → bit_and x (bit_and (bit_or a (block_starts w a)) ((2 ^ w - 1) - opening w a)) ≡ 0 → flooded_by x ≡ x
    flood_quiet x hx has e =
        same-all (flooded_by x) x (λ j.
        flood-all x hx j ∙ closed_quiet (bit x) (bit 1) (bit a) (bit (block_starts w a)) (bit (block_ends w a)) (blocks w a ha low) held still j)
      where
        held : (j : ℕ) → (closed (bit 1) (bit a) j && not (bit x j)) ≡ false
        held j =
            ap (λ (p : Bool). p && not (bit x j)) (sym (start-bit j))
            ∙ absorbed (bit x j) (bit (opening w a) j) (sym (and_bit x (opening w a) j) ∙ ap (λ (n : ℕ). bit n j) has)

        still : (j : ℕ) → (bit x j && ((bit a j || bit (block_starts w a) j) && not (closed (bit 1) (bit a) j))) ≡ false
        still j = pick (dec_lt j w)
          where
            pick : Dec (j < w) → (bit x j && ((bit a j || bit (block_starts w a) j) && not (closed (bit 1) (bit a) j))) ≡ false
            pick (yes l) =
                ap (λ (p : Bool). bit x j && p)
                (sym (and_bit (bit_or a (block_starts w a)) ((2 ^ w - 1) - opening w a) j
                ∙ ap₂ (λ (p q : Bool). p && q) (or_bit a (block_starts w a) j) (not_bit w (opening w a) j start-lt l ∙ ap not (start-bit j))))
                ∙ apart x (bit_and (bit_or a (block_starts w a)) ((2 ^ w - 1) - opening w a)) e j
            pick (no n) = ap (λ (p : Bool). p && ((bit a j || bit (block_starts w a) j) && not (closed (bit 1) (bit a) j))) (bit-above w x j hx (omega arith))
