-- Where the lowest word does the step alone. Below bit v the step does not depend on what stands from v on; and nothing gets past it while bit v - 1 stays
-- clear. Assumes nothing.
use Rattle.std.proofs.Common.{◌≡◌, ℕ, zero, suc, ◌+◌, ◌-◌, ◌%◌, ◌^◌, ◌<◌, ◌≤◌, Bool, true, false, ◌&&◌, ◌||◌, sym, refl, ap, ◌∙◌, ap₂, add-zero, mod-lt, arith, pow_pos, pow_mono}
use native.Mathlib.Decide.{dec_lt}
use Rattle.shift_and.specs.Bit.{bit}
use Rattle.shift_and.specs.ForwardStep.{move, advance, block_starts, block_ends}
use Rattle.shift_and.proofs.Digits.{bit-above, mod_bit}
use Rattle.shift_and.proofs.DisjointBits.{same_bits}
use Rattle.shift_and.proofs.Closure.{closed, moved, step_bit_lem}
use Rattle.shift_and.proofs.Unchanged.{flood-lt, move-lt}

-- ---- rows

closed_below : (v : ℕ) (d e a b : ℕ → Bool) → ((i : ℕ) → i < v → d i ≡ e i) → ((i : ℕ) → i < v → a i ≡ b i) → (j : ℕ) → j < v → closed d a j ≡ closed e b j
unfolding closed
closed_below v d e a b hd ha zero l = hd 0 l
closed_below v d e a b hd ha (suc j) l =
    ap₂ (λ (p q : Bool). p || q) (hd (suc j) l) (ap₂ (λ (p q : Bool). p && q) (ha (suc j) l) (closed_below v d e a b hd ha j (omega arith)))

closed_none : (u : ℕ) (d a : ℕ → Bool) → closed d a u ≡ false → ((j : ℕ) → u < j → d j ≡ false) → (n : ℕ) → closed d a (u + n) ≡ false
unfolding closed
closed_none u d a z h zero = ap (closed d a) (add-zero u) ∙ z
closed_none u d a z h (suc n) =
    let e : u + suc n ≡ suc (u + n) = omega arith in
    ap (closed d a) e ∙ ap₂ (λ (p q : Bool). p || (a (suc (u + n)) && q)) (h (suc (u + n)) (omega arith)) (closed_none u d a z h n) ∙ and_no (a (suc (u + n)))
  where
    and_no : (b : Bool) → (b && false) ≡ false
    and_no true = refl
    and_no false = refl

moved-below : (v : ℕ) (d b s k b' s' : ℕ → Bool) → ((i : ℕ) → i < v → b i ≡ b' i) → ((i : ℕ) → i < v → s i ≡ s' i) → (j : ℕ) → j < v → moved d b s k j ≡ moved d b' s' k j
unfolding moved
moved-below v d b s k b' s' hb hs zero l = ap (λ (q : Bool). (d 0 && q) || k 0) (hs 0 l)
moved-below v d b s k b' s' hb hs (suc j) l = ap₂ (λ (p q : Bool). (d j && p) || (d (suc j) && q) || k (suc j)) (hb (suc j) l) (hs (suc j) l)

moved_none : (u : ℕ) (d b s k : ℕ → Bool) → ((j : ℕ) → u ≤ j → d j ≡ false) → ((j : ℕ) → u < j → k j ≡ false) → (j : ℕ) → u < j → moved d b s k j ≡ false
unfolding moved
moved_none u d b s k hd hk zero l = absurd (omega arith)
moved_none u d b s k hd hk (suc j) l =
    ap₂ (λ (p q : Bool). (p && b (suc j)) || (q && s (suc j)) || k (suc j)) (hd j (omega arith)) (hd (suc j) (omega arith)) ∙ hk (suc j) l

-- ---- words

advance-lt : (w d b s k a i f : ℕ) → b < 2 ^ w → s < 2 ^ w → k < 2 ^ w → a < 2 ^ w → advance w d b s k a i f < 2 ^ w
unfolding advance
advance-lt w d b s k a i f hb hs hk ha = flood-lt w (move w d b s k) a i f (move-lt w d b s k hb hs hk) ha

-- The step of u + 1 bits, on what stands below.
abbrev pub lower_step : (u d b s k a : ℕ) → ℕ
lower_step u d b s k a =
    advance (suc u) d (b % 2 ^ suc u) (s % 2 ^ suc u) k (a % 2 ^ suc u) (block_starts (suc u) (a % 2 ^ suc u)) (block_ends (suc u) (a % 2 ^ suc u))

abbrev pub whole_step : (w d b s k a : ℕ) → ℕ
whole_step w d b s k a = advance w d b s k a (block_starts w a) (block_ends w a)

module _ (u w d b s k a : ℕ) (hu : suc u ≤ w) (hd : d < 2 ^ u) (hb : b < 2 ^ w) (hs : s < 2 ^ w) (hk : k < 2 ^ suc u) (ha : a < 2 ^ w) (even : bit a 0 ≡ false) where
  wide : 2 ^ suc u ≤ 2 ^ w
  wide = pow_mono hu

  low-row : (x j : ℕ) → j < suc u → bit x j ≡ bit (x % 2 ^ suc u) j
  low-row x j l = sym (mod_bit (suc u) x j l)

  small : (x : ℕ) → x % 2 ^ suc u < 2 ^ suc u
  small x = mod-lt x (pow_pos (suc u))

  under : (j : ℕ) → j < suc u → bit (whole_step w d b s k a) j ≡ bit (lower_step u d b s k a) j
  under j l =
      step_bit_lem w d b s k a ha even j (omega arith)
      ∙ closed_below (suc u) _ _ _ _ (moved-below (suc u) (bit d) (bit b) (bit s) (bit k) (bit (b % 2 ^ suc u)) (bit (s % 2 ^ suc u)) (low-row b) (low-row s)) (low-row a) j l
      ∙ sym (step_bit_lem (suc u) d (b % 2 ^ suc u) (s % 2 ^ suc u) k (a % 2 ^ suc u) (small a) (sym (low-row a 0 (omega arith)) ∙ even) j l)

  over : bit (lower_step u d b s k a) u ≡ false → (j : ℕ) → u < j → j < w → bit (whole_step w d b s k a) j ≡ false
  over z j l m =
      let e : u + (j - u) ≡ j = omega arith in
      step_bit_lem w d b s k a ha even j m ∙ ap (closed (moved (bit d) (bit b) (bit s) (bit k)) (bit a)) (sym e)
      ∙ closed_none u (moved (bit d) (bit b) (bit s) (bit k)) (bit a) (sym (step_bit_lem w d b s k a ha even u (omega arith)) ∙ under u (omega arith) ∙ z)
      (moved_none u (bit d) (bit b) (bit s) (bit k) (λ i p. bit-above u d i hd p) (λ i p. bit-above (suc u) k i hk p)) (j - u)

  pub lower : bit (lower_step u d b s k a) u ≡ false → whole_step w d b s k a ≡ lower_step u d b s k a
  lower z =
      let hl = advance-lt (suc u) d (b % 2 ^ suc u) (s % 2 ^ suc u) k (a % 2 ^ suc u) (block_starts (suc u) (a % 2 ^ suc u)) (block_ends (suc u) (a % 2 ^ suc u)) (small b) (small s) hk (small a) in
      same_bits w (whole_step w d b s k a) (lower_step u d b s k a) (advance-lt w d b s k a (block_starts w a) (block_ends w a) hb hs (lt_le k (2 ^ suc u) (2 ^ w) hk wide) ha)
      (lt_le (lower_step u d b s k a) (2 ^ suc u) (2 ^ w) hl wide) (λ j m. go j m (dec_lt j (suc u)) hl)
    where
      lt_le : (x y z : ℕ) → x < y → y ≤ z → x < z
      lt_le x y z p q = omega arith

      go : (j : ℕ) → j < w → Dec (j < suc u) → lower_step u d b s k a < 2 ^ suc u → bit (whole_step w d b s k a) j ≡ bit (lower_step u d b s k a) j
      go j m (yes l) hl = under j l
      go j m (no n) hl = over z j (omega arith) m ∙ sym (bit-above (suc u) (lower_step u d b s k a) j hl (omega arith))
