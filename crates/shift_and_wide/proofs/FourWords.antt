-- The functions on a word and on four meet their definitions: one law for each `return`. Assumes nothing.
use Rattle.std.proofs.Common.{◌≡◌, ℕ, zero, suc, ◌+◌, ◌-◌, ◌*◌, ◌/◌, ◌%◌, ◌^◌, ◌<◌, ◌≤◌, true, ltb, sym, refl, ap, ◌∙◌, arith, le-ltb, lt-ltb}
use lib.Bits.{bit_and, bit_or, bit_xor, or_lt}
use Rattle.model.specs.Occurrence.{one_if}
use Rattle.shift_and.specs.ForwardStep.{wrap_sub, flood}
use Rattle.shift_and_wide.specs.declared.Wide.{Wide}
use Rattle.shift_and_wide.specs.ManyWords.{move_word, carry, move_words, borrows, flood_words, half, starts_words, ends_words}
use Rattle.shift_and_wide.specs.Wides.{moved, flooded, starts_of, ends_of, Passes}

-- ---- a word

pub word-moves : (c d b r k : ℕ) → c < 2 → bit_or (bit_or (bit_and (d * 2 % 2 ^ 64 + c) b) (bit_and d (bit_and b r))) k ≡ move_word 64 c d b r k
word-moves c d b r k h =
    let e : d * 2 % 2 ^ 64 + c ≡ (d * 2 + c) % 2 ^ 64 = omega arith in
    ap (λ (n : ℕ). bit_or (bit_or (bit_and n b) (bit_and d (bit_and b r))) k) e

pub word_floods : (o d q i f t r : ℕ) → o < 2 → i < 2 ^ 64 → t < 2 ^ 64 → r < 2 ^ 64 → (t + i) % 2 ^ 64 ≡ bit_or d f → (r + o) % 2 ^ 64 ≡ t
    → bit_or d (bit_and q (bit_xor ((2 ^ 64 - 1) - r) (bit_or d f))) ≡ flood 64 d q (i + o) f
unfolding flood
word_floods o d q i f t r ho hi ht hr et er =
    ap (λ (n : ℕ). bit_or d (bit_and q (bit_xor ((2 ^ 64 - 1) - n) (bit_or d f)))) (less (bit_or d f) i o t r ho hi ht hr et er)
  where
    wrapped : (x y r : ℕ) → y ≤ 2 ^ 64 → r < 2 ^ 64 → (r + y) % 2 ^ 64 ≡ x → r ≡ wrap_sub 64 x y
    wrapped x y r hy hr e = omega arith

    twice : (g i o t r : ℕ) → o < 2 → (t + i) % 2 ^ 64 ≡ g → (r + o) % 2 ^ 64 ≡ t → (r + (i + o)) % 2 ^ 64 ≡ g
    twice g i o t r ho et er = omega arith

    less : (g i o t r : ℕ) → o < 2 → i < 2 ^ 64 → t < 2 ^ 64 → r < 2 ^ 64 → (t + i) % 2 ^ 64 ≡ g → (r + o) % 2 ^ 64 ≡ t → r ≡ wrap_sub 64 g (i + o)
    less g i o t r ho hi ht hr et er = wrapped g (i + o) r (omega arith) hr (twice g i o t r ho et er)

-- the subtraction turned round
module _ (o d i f s : ℕ) (ho : o < 2) (hd : d < 2 ^ 64) (hi : i < 2 ^ 64) (hf : f < 2 ^ 64) (es : s ≡ ((2 ^ 64 - 1) - bit_or d f + i) % 2 ^ 64) where
  small : bit_or d f < 2 ^ 64
  small = or_lt 64 d f hd hf

  pub word_floods_turned : (q r : ℕ) → r ≡ (s + o) % 2 ^ 64 → bit_or d (bit_and q (bit_xor r (bit_or d f))) ≡ flood 64 d q (i + o) f
  unfolding flood
  word_floods_turned q r er = ap (λ (n : ℕ). bit_or d (bit_and q (bit_xor n (bit_or d f)))) (turned (bit_or d f) small es er)
    where
      sum : (g : ℕ) → g < 2 ^ 64 → s ≡ ((2 ^ 64 - 1) - g + i) % 2 ^ 64 → (s + o) % 2 ^ 64 ≡ ((2 ^ 64 - 1) - g + (i + o)) % 2 ^ 64
      sum g hg e = omega arith

      less : (g y : ℕ) → g < 2 ^ 64 → y ≤ 2 ^ 64 → ((2 ^ 64 - 1) - g + y) % 2 ^ 64 ≡ (2 ^ 64 - 1) - wrap_sub 64 g y
      less g y hg hy = omega arith

      turned : (g : ℕ) → g < 2 ^ 64 → s ≡ ((2 ^ 64 - 1) - g + i) % 2 ^ 64 → r ≡ (s + o) % 2 ^ 64 → r ≡ (2 ^ 64 - 1) - wrap_sub 64 g (i + o)
      turned g hg e k = k ∙ sum g hg e ∙ less g (i + o) hg (omega arith)

  one_lent : ltb (bit_or d f) (i + o) ≡ true → Passes (borrows o d i f) 1
  one_lent e = record { bit = sym (ap one_if e); small = omega arith }

  pub lent_by_i : s < i → Passes (borrows o d i f) 1
  lent_by_i l = one_lent (lt-ltb (bit_or d f) (i + o) (omega (arith, small)))

  pub lent_by_o : (r : ℕ) → i ≤ s → r ≡ (s + o) % 2 ^ 64 → r < o → Passes (borrows o d i f) 1
  lent_by_o r l er m = one_lent (lt-ltb (bit_or d f) (i + o) (omega (arith, small)))

  pub none_lent : (r : ℕ) → i ≤ s → r ≡ (s + o) % 2 ^ 64 → o ≤ r → Passes (borrows o d i f) 0
  none_lent r l er m = record { bit = sym (ap one_if (le-ltb (bit_or d f) (i + o) (omega (arith, small)))); small = omega arith }

-- ---- four words

module _ (d b r : Wide) (k c₀ c₁ c₂ x₀ x₁ x₂ x₃ : ℕ)
    (p₀ : Passes (carry 64 0 d.w0) c₀) (p₁ : Passes (carry 64 c₀ d.w1) c₁) (p₂ : Passes (carry 64 c₁ d.w2) c₂)
    (e₀ : x₀ ≡ move_word 64 0 d.w0 b.w0 r.w0 k) (e₁ : x₁ ≡ move_word 64 c₀ d.w1 b.w1 r.w1 0)
    (e₂ : x₂ ≡ move_word 64 c₁ d.w2 b.w2 r.w2 0) (e₃ : x₃ ≡ move_word 64 c₂ d.w3 b.w3 r.w3 0) where
  pub four_move : record { w0 = x₀; w1 = x₁; w2 = x₂; w3 = x₃ } ≡ moved d b r k
  unfolding moved move_words
  four_move = rw (← p₀.bit, ← p₁.bit, ← p₂.bit, e₀, e₁, e₂, e₃)

module _ (d q i f : Wide) (o₀ o₁ o₂ x₀ x₁ x₂ x₃ : ℕ)
    (p₀ : Passes (borrows 0 d.w0 i.w0 f.w0) o₀) (p₁ : Passes (borrows o₀ d.w1 i.w1 f.w1) o₁) (p₂ : Passes (borrows o₁ d.w2 i.w2 f.w2) o₂)
    (e₀ : x₀ ≡ flood 64 d.w0 q.w0 (i.w0 + 0) f.w0) (e₁ : x₁ ≡ flood 64 d.w1 q.w1 (i.w1 + o₀) f.w1)
    (e₂ : x₂ ≡ flood 64 d.w2 q.w2 (i.w2 + o₁) f.w2) (e₃ : x₃ ≡ flood 64 d.w3 q.w3 (i.w3 + o₂) f.w3) where
  pub four_flood : record { w0 = x₀; w1 = x₁; w2 = x₂; w3 = x₃ } ≡ flooded d q i f
  unfolding flooded flood_words
  four_flood = rw (← p₀.bit, ← p₁.bit, ← p₂.bit, e₀, e₁, e₂, e₃)

pub half_zero : (c q : ℕ) → c ≡ 0 → q / 2 ≡ half 64 c q
half_zero c q e = let z : q / 2 ≡ half 64 0 q = omega arith in z ∙ ap (λ (n : ℕ). half 64 n q) (sym e)

pub half-one : (c q : ℕ) → c < 2 → (c ≡ 0 → ⊥) → q / 2 + 2 ^ 63 ≡ half 64 c q
half-one zero q h n = absurd (n refl)
half-one (suc zero) q h n = omega arith
half-one (suc (suc c)) q h n = absurd (omega arith)

module _ (q : Wide) (h₀ h₁ h₂ h₃ : ℕ) (e₀ : h₀ ≡ half 64 (q.w1 % 2) q.w0) (e₁ : h₁ ≡ half 64 (q.w2 % 2) q.w1)
    (e₂ : h₂ ≡ half 64 (q.w3 % 2) q.w2) (e₃ : h₃ ≡ half 64 0 q.w3) where
  pub four_starts : record {
    w0 = bit_and h₀ ((2 ^ 64 - 1) - q.w0);
    w1 = bit_and h₁ ((2 ^ 64 - 1) - q.w1);
    w2 = bit_and h₂ ((2 ^ 64 - 1) - q.w2);
    w3 = bit_and h₃ ((2 ^ 64 - 1) - q.w3);
  } ≡ starts_of q
  unfolding starts_of starts_words
  four_starts = rw (e₀, e₁, e₂, e₃)

  pub four_ends : record {
    w0 = bit_and q.w0 ((2 ^ 64 - 1) - h₀);
    w1 = bit_and q.w1 ((2 ^ 64 - 1) - h₁);
    w2 = bit_and q.w2 ((2 ^ 64 - 1) - h₂);
    w3 = bit_and q.w3 ((2 ^ 64 - 1) - h₃);
  } ≡ ends_of q
  unfolding ends_of ends_words
  four_ends = rw (e₀, e₁, e₂, e₃)
