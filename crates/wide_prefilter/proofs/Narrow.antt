-- Where the lowest word runs alone. 1. For all the text: nothing is optional above it, and no byte has the lowest bit of plane 1. 2. While bit 63 stays
-- clear, and bit 0 is not optional. Assumes nothing.
use mathlib.Core.Path.{◌≡◌, refl, ap, ap₂, ◌∙◌}
use mathlib.Core.Bool.{Bool, false, ◌&&◌, and-false}
use mathlib.Core.List.{List, [], ◌∷◌}
use Prim.Native.Nat.{ℕ, zero, suc, ◌+◌, ◌-◌, ◌*◌, ◌/◌, ◌%◌, ◌^◌, ◌<◌}
use native.Mathlib.Nat.{add-zero, zero-add, lt_of_le_of_lt, mod-lt}
use native.Mathlib.Omega.{arith}
use lib.Bits.{bit_and, bit_or, and_step, and_zero_l, and_le_l, or_lt}
use lib.ListN.{get_or, take, drop}
use lib.Pow.{pow_pos}
use Rattle.model.specs.Occurrence.{cons_if}
use Rattle.shift_and.specs.Bit.{bit}
use Rattle.shift_and.specs.ForwardStep.{move, flood, advance, block_starts, block_ends, top_bit}
use borrow.Author.Tests.{eqb-false}
use Rattle.shift_and.specs.Automaton.{Automaton}
use Rattle.shift_and.proofs.Digits.{and_bit}
use Rattle.shift_and.proofs.Bridge.{top-bit}
use Rattle.shift_and.proofs.Unchanged.{flood-none, flood-lt}
use Rattle.shift_and_step.specs.declared.Masks.{Masks}
use Rattle.shift_and.specs.Automaton.{step_with, step_on, state_after, ends_in}
use Rattle.shift_and_step.specs.Stepping.{automaton_of, step_n}
use Rattle.shift_and_wide.specs.declared.Wide.{Wide}
use Rattle.shift_and_wide.specs.declared.WideMasks.{WideMasks}
use Rattle.shift_and_wide.specs.ManyWords.{value, move_word, carry, move_words, flood_words, half, starts_words, ends_words}
use Rattle.shift_and_wide.specs.Wides.{number, low, moved, flooded, starts_of, ends_of, stepped, top_bit_of}
use Rattle.shift_and_wide.specs.Stepping.{entry_of, wide_automaton_of, step_on_w, state_after_w, ends_in_w}
use Rattle.wide_prefilter.specs.Choosing.{low_masks}
use Rattle.shift_and_wide.proofs.OverWords.{move-is}
use Rattle.shift_and_wide.proofs.Wides.{same}

pub low-number : (x : ℕ) → number (low x) ≡ x
unfolding number value
low-number x = zero-add x

pub step_lt : (m : Masks) (k d b : ℕ) → k < 2 ^ 64 → d < 2 ^ 64 → m.optional < 2 ^ 64 → step_n m k d b < 2 ^ 64
unfolding step_with advance move
step_lt m k d b hk hd ha =
    flood-lt 64 _ m.optional _ _
    (or_lt 64 _ k (or_lt 64 _ _ (lt_of_le_of_lt (and_le_l (d * 2 % 2 ^ 64) b) (mod-lt (d * 2) (pow_pos 64))) (lt_of_le_of_lt (and_le_l d (bit_and b m.repeats)) hd)) hk) ha

-- a word whose bit 63 is clear
clear-lt : (x : ℕ) → x < 2 ^ 64 → bit x 63 ≡ false → x < 2 ^ 63
unfolding top_bit
clear-lt x h z = go x h (eqb-false (x / 2 ^ 63 % 2) 1 (top-bit 63 x ∙ z))
  where
    go : (x : ℕ) → x < 2 ^ 64 → (x / 2 ^ 63 % 2 ≡ 1 → ⊥) → x < 2 ^ 63
    go x h n = omega arith

-- a step from a state below bit 63 at an entry without it
step_clear : (m : Masks) (d b : ℕ) → d < 2 ^ 63 → m.optional < 2 ^ 63 → bit b 63 ≡ false → step_n m 1 d b < 2 ^ 63
unfolding step_with advance move flood
step_clear m d b hd ha hb =
    let s = bit_and b m.repeats in
    let up : bit_and (d * 2 % 2 ^ 64) b < 2 ^ 63 =
    clear-lt (bit_and (d * 2 % 2 ^ 64) b) (lt_of_le_of_lt (and_le_l (d * 2 % 2 ^ 64) b) (mod-lt (d * 2) (pow_pos 64)))
    (and_bit (d * 2 % 2 ^ 64) b 63 ∙ ap (λ (x : Bool). bit (d * 2 % 2 ^ 64) 63 && x) hb ∙ and-false (bit (d * 2 % 2 ^ 64) 63)) in
    or_lt 63 _ _ (or_lt 63 _ 1 (or_lt 63 _ _ up (lt_of_le_of_lt (and_le_l d s) hd)) (omega arith)) (lt_of_le_of_lt (and_le_l m.optional _) ha)

-- the top bit of the lowest word alone
pub low-accepts : (n x : ℕ) → n < 64 → top_bit_of n (low x) ≡ top_bit n x
unfolding top_bit_of
low-accepts n x h = let q : n / 64 ≡ 0 = omega arith in let r : n % 64 ≡ n = omega arith in rw (q, r)

-- ---- 1. for all the text

-- a bit that no byte of the word above admits
and_even : (c b : ℕ) → c < 2 → b % 2 ≡ 0 → bit_and ((0 * 2 + c) % 2 ^ 64) b ≡ 0
and_even zero b h e = and_zero_l b
and_even (suc zero) b h e = and_step 1 b ∙ rw (e, and_zero_l (b / 2))
and_even (suc (suc c)) b h e = absurd (omega arith)

stays-none : (c b r : ℕ) → c < 2 → b % 2 ≡ 0 → move_word 64 c 0 b r 0 ≡ 0
stays-none c b r h e = ap₂ (λ (x y : ℕ). bit_or (bit_or x y) 0) (and_even c b h e) (and_zero_l (bit_and b r))

moves-none : (b r : ℕ) → move_word 64 0 0 b r 0 ≡ 0
moves-none b r = ap₂ (λ (x y : ℕ). bit_or (bit_or x y) 0) (and_zero_l b) (and_zero_l (bit_and b r))

low-is : (x : Wide) (y : ℕ) → x.w0 ≡ y → x.w1 ≡ 0 → x.w2 ≡ 0 → x.w3 ≡ 0 → x ≡ low y
low-is x y e f g h = same x.w0 x.w1 x.w2 x.w3 y 0 0 0 e f g h

carry-none : (c : ℕ) → c < 2 → carry 64 c 0 ≡ 0
carry-none c h = omega arith

narrow : (d b₀ b₁ b₂ b₃ k a : ℕ) (r : Wide) → d < 2 ^ 64 → move_word 64 (carry 64 0 d) 0 b₁ r.w1 0 ≡ 0
    → stepped (low d) (record { w0 = b₀; w1 = b₁; w2 = b₂; w3 = b₃ }) r (low a) k ≡ low (flood 64 (move 64 d b₀ (bit_and b₀ r.w0) k) a (block_starts 64 a) (block_ends 64 a))
unfolding stepped flooded moved starts_of ends_of flood_words move_words starts_words ends_words
narrow d b₀ b₁ b₂ b₃ k a r hd e =
    let hc : carry 64 0 d < 2 = omega arith in
    let z = carry-none (carry 64 0 d) hc in
    low-is (stepped (low d) (record { w0 = b₀; w1 = b₁; w2 = b₂; w3 = b₃ }) r (low a) k) _
    (ap₂ (λ (x h : ℕ). flood 64 x a (bit_and h ((2 ^ 64 - 1) - a) + 0) (bit_and a ((2 ^ 64 - 1) - h))) (move-is 64 d b₀ r.w0 k k refl) (let q : half 64 0 a ≡ a / 2 = omega arith in q)
    ∙ ap (λ (i : ℕ). flood 64 (move 64 d b₀ (bit_and b₀ r.w0) k) a i (block_ends 64 a)) (add-zero (block_starts 64 a)))
    (flood-none 64 _ _ _ ∙ e)
    (flood-none 64 _ _ _ ∙ ap (λ (n : ℕ). move_word 64 n 0 b₂ r.w2 0) z ∙ moves-none b₂ r.w2)
    (flood-none 64 _ _ _ ∙ ap (λ (n : ℕ). move_word 64 (carry 64 n 0) 0 b₃ r.w3 0) z ∙ moves-none b₃ r.w3)

module _ (t : List ℕ) (m : WideMasks) (ht : m.top < 64) (hq : m.optional ≡ low m.optional.w0) where
  abbrev One : Automaton
  One = automaton_of (take 256 t) (low_masks m.top m)

  -- What holds of the states: they are words, no bit of one leaves the word, and a step keeps it so.
  pub record Keeps (P : ℕ → Type 0) : Type 0 where
    pub word : (d : ℕ) → P d → d < 2 ^ 64
    pub stays : (d c : ℕ) → P d → move_word 64 (carry 64 0 d) 0 (get_or (take 256 (drop 256 t)) c 0) m.repeats.w1 0 ≡ 0
    pub next : (d c : ℕ) → P d → P (step_on One 1 d c)

  module _ (P : ℕ → Type 0) (k : Keeps P) where
    narrow_step : (d c : ℕ) → P d → step_on_w (wide_automaton_of t m) (low d) c ≡ low (step_on One 1 d c)
    unfolding step_with advance
    narrow_step d c hd =
        ap (λ (q : Wide). stepped (low d) (entry_of t c) m.repeats q 1) hq
        ∙ narrow d (get_or (take 256 t) c 0) (get_or (take 256 (drop 256 t)) c 0) (get_or (take 256 (drop 512 t)) c 0) (get_or (take 256 (drop 768 t)) c 0) 1 m.optional.w0 m.repeats (k.word d hd) (k.stays d c hd)

    pub narrow_state : (d : ℕ) (text : List ℕ) → P d → state_after_w (wide_automaton_of t m) (low d) text ≡ low (state_after One d text)
    unfolding state_after_w state_after
    narrow_state d [] hd = refl
    narrow_state d (c ∷ cs) hd =
        ap (λ (x : Wide). state_after_w (wide_automaton_of t m) x cs) (narrow_step d c hd) ∙ narrow_state (step_on One 1 d c) cs (k.next d c hd)

    pub narrow_ends : (d at : ℕ) (text : List ℕ) → P d → ends_in_w (wide_automaton_of t m) (low d) at text ≡ ends_in One d at text
    unfolding ends_in_w ends_in
    narrow_ends d at [] hd = refl
    narrow_ends d at (c ∷ cs) hd =
        let x = step_on One 1 d c in
        ap (λ (y : Wide). cons_if (top_bit_of m.top y) (at + 1) (ends_in_w (wide_automaton_of t m) y (at + 1) cs)) (narrow_step d c hd)
        ∙ ap₂ (λ (b : Bool) (es : List ℕ). cons_if b (at + 1) es) (low-accepts m.top x ht) (narrow_ends x (at + 1) cs (k.next d c hd))

  -- no byte of the word above admits bit 64
  pub even-keeps : m.optional.w0 < 2 ^ 64 → ((c : ℕ) → get_or (take 256 (drop 256 t)) c 0 % 2 ≡ 0) → Keeps (λ d. d < 2 ^ 64)
  even-keeps ha he = record {
    word = λ d h. h;
    stays = λ d c h. stays-none (carry 64 0 d) (get_or (take 256 (drop 256 t)) c 0) m.repeats.w1 (omega arith) (he c);
    next = λ d c h. step_lt (low_masks m.top m) 1 d (get_or (take 256 t) c 0) (omega arith) h ha;
  }

  -- or no entry has bit 63, and so no state has
  pub clear-keeps : m.optional.w0 < 2 ^ 63 → ((c : ℕ) → bit (get_or (take 256 t) c 0) 63 ≡ false) → Keeps (λ d. d < 2 ^ 63)
  clear-keeps ha hc = record {
    word = λ d h. omega arith;
    stays = λ d c h.
        let z : carry 64 0 d ≡ 0 = omega arith in
        ap (λ (n : ℕ). move_word 64 n 0 (get_or (take 256 (drop 256 t)) c 0) m.repeats.w1 0) z ∙ moves-none (get_or (take 256 (drop 256 t)) c 0) m.repeats.w1;
    next = λ d c h. step_clear (low_masks m.top m) d (get_or (take 256 t) c 0) h ha (hc c);
  }
