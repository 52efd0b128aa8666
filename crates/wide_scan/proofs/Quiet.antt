-- The lowest word runs alone while its bit 63 stays clear: a run of one word, with 63 for its top position, that reports nothing is the run of four words,
-- whose other words stay 0. It may be any run of one word. Bit 0 must not be optional. Assumes nothing.
use mathlib.Core.Path.{◌≡◌, refl, sym, ap, ap₂, ◌∙◌}
use mathlib.Core.Bool.{Bool, true, false}
use mathlib.Core.List.{List, [], ◌∷◌, cons≢nil}
use Prim.Native.Nat.{ℕ, zero, suc, ◌+◌, ◌*◌, ◌/◌, ◌%◌, ◌^◌, ◌≤◌, ◌<◌}
use native.Mathlib.Nat.{lt_of_le_of_lt, mod-lt, mod-eq_of_lt}
use native.Mathlib.Omega.{arith}
use lib.Arith.{digits_div, digits_mod}
use lib.Bits.{bit_and, bit_or, and_le_l, and_mod}
use lib.ListN.{get_or, take}
use lib.Pow.{pow_pos}
use borrow.Author.Tests.{eqb-false}
use Rattle.model.specs.Occurrence.{cons_if}
use Rattle.shift_and.specs.Bit.{is_set, bit}
use Rattle.shift_and.specs.ForwardStep.{move, flood, advance, block_starts, block_ends, top_bit}
use Rattle.shift_and.proofs.Digits.{mod_bit, none-bit}
use Rattle.shift_and.proofs.Bridge.{top-bit}
use Rattle.shift_and.specs.Automaton.{step_with, step_on, state_after, ends_in}
use Rattle.shift_and_step.specs.Stepping.{automaton_of, step_n}
use Rattle.shift_and_wide.specs.declared.Wide.{Wide}
use Rattle.shift_and_wide.specs.declared.WideMasks.{WideMasks}
use Rattle.shift_and_wide.specs.ManyWords.{value, Words, move_word, move_words}
use Rattle.shift_and_wide.specs.Wides.{words, number, low, moved, flooded, starts_of, ends_of, stepped, top_bit_of}
use Rattle.shift_and_wide.specs.Stepping.{entry_of, step_w, wide_automaton_of, state_after_w, ends_in_w}
use Rattle.shift_and_wide.proofs.OverWords.{value-lt}
use Rattle.shift_and_wide.proofs.Instances.{stepped-words, stepped-number}
use Rattle.shift_and_wide.proofs.Lower.{lower_step, whole_step, lower}
use Rattle.shift_and_wide.proofs.Wides.{same}
use Rattle.wide_prefilter.specs.Choosing.{low_masks}
use Rattle.wide_prefilter.proofs.Narrow.{low-number, step_lt}

-- ---- a number has one set of words

digit : (v x v' x' p : ℕ) → x < p → x' < p → v * p + x ≡ v' * p + x' → (v ≡ v') × (x ≡ x')
digit v x v' x' p h h' e =
    (sym (digits_div v h) ∙ ap (λ (n : ℕ). n / p) e ∙ digits_div v' h', sym (digits_mod v h) ∙ ap (λ (n : ℕ). n % p) e ∙ digits_mod v' h')

same_number : (x y : Wide) → Words 64 4 (words x) → Words 64 4 (words y) → number x ≡ number y → x ≡ y
unfolding number value
same_number x y hx hy e =
    let d₀ = digit _ x.w0 _ y.w0 (2 ^ 64) hx.0 hy.0 e in
    let d₁ = digit _ x.w1 _ y.w1 (2 ^ 64) hx.1.0 hy.1.0 d₀.0 in
    let d₂ = digit _ x.w2 _ y.w2 (2 ^ 64) hx.1.1.0 hy.1.1.0 d₁.0 in
    let d₃ = digit 0 x.w3 0 y.w3 (2 ^ 64) hx.1.1.1.0 hy.1.1.1.0 d₂.0 in
    same x.w0 x.w1 x.w2 x.w3 y.w0 y.w1 y.w2 y.w3 d₀.1 d₁.1 d₂.1 d₃.1

lowest_of : (x : Wide) → x.w0 < 2 ^ 64 → number x % 2 ^ 64 ≡ x.w0
unfolding number value
lowest_of x h = digits_mod _ h

-- ---- of a table's entry only the bits below 64 count

module _ (d b r : ℕ) (hd : d < 2 ^ 64) (hr : r < 2 ^ 64) where
  and_cut : bit_and d b ≡ bit_and d (b % 2 ^ 64)
  and_cut = sym (mod-eq_of_lt (lt_of_le_of_lt (and_le_l d b) hd)) ∙ and_mod d b 64 ∙ ap (λ (x : ℕ). bit_and x (b % 2 ^ 64)) (mod-eq_of_lt hd)

  masks_cut : bit_and b r % 2 ^ 64 ≡ bit_and (b % 2 ^ 64) r
  masks_cut = and_mod b r 64 ∙ ap (bit_and (b % 2 ^ 64)) (mod-eq_of_lt hr)

stays_cut : (d b r : ℕ) → d < 2 ^ 64 → r < 2 ^ 64 → bit_and d (bit_and b r) ≡ bit_and d (bit_and (b % 2 ^ 64) r)
stays_cut d b r hd hr = and_cut d (bit_and b r) r hd hr ∙ ap (bit_and d) (masks_cut d b r hd hr)

word_cut : (c d b r k : ℕ) → d < 2 ^ 64 → r < 2 ^ 64 → move_word 64 c d b r k ≡ move_word 64 c d (b % 2 ^ 64) r k
word_cut c d b r k hd hr =
    ap₂ (λ (x y : ℕ). bit_or (bit_or x y) k) (and_cut ((d * 2 + c) % 2 ^ 64) b r (mod-lt (d * 2 + c) (pow_pos 64)) hr) (stays_cut d b r hd hr)

cut : Wide → Wide
cut b = record { w0 = b.w0 % 2 ^ 64; w1 = b.w1 % 2 ^ 64; w2 = b.w2 % 2 ^ 64; w3 = b.w3 % 2 ^ 64 }

cut_words : (b : Wide) → Words 64 4 (words (cut b))
unfolding cut
cut_words b = let l : (x : ℕ) → x % 2 ^ 64 < 2 ^ 64 = λ x. mod-lt x (pow_pos 64) in (l b.w0, (l b.w1, (l b.w2, (l b.w3, tt))))

moved_cut : (d b r : Wide) (k : ℕ) → Words 64 4 (words d) → Words 64 4 (words r) → moved d b r k ≡ moved d (cut b) r k
unfolding moved move_words cut
moved_cut d b r k hd hr =
    same _ _ _ _ _ _ _ _ (word_cut _ d.w0 b.w0 r.w0 k hd.0 hr.0) (word_cut _ d.w1 b.w1 r.w1 0 hd.1.0 hr.1.0)
    (word_cut _ d.w2 b.w2 r.w2 0 hd.1.1.0 hr.1.1.0) (word_cut _ d.w3 b.w3 r.w3 0 hd.1.1.1.0 hr.1.1.1.0)

low-words : (x : ℕ) → x < 2 ^ 64 → Words 64 4 (words (low x))
low-words x h = (h, (pow_pos 64, (pow_pos 64, (pow_pos 64, tt))))

number_lt : (x : Wide) → Words 64 4 (words x) → number x < 2 ^ 256
unfolding number
number_lt x h = value-lt 64 4 (words x) h

low_cut : (b : Wide) → number (cut b) % 2 ^ 64 ≡ b.w0 % 2 ^ 64
unfolding cut
low_cut b = lowest_of (cut b) (mod-lt b.w0 (pow_pos 64))

advance_cut : (d b r a i f : ℕ) → d < 2 ^ 64 → r < 2 ^ 64 → advance 64 d b (bit_and b r) 1 a i f ≡ advance 64 d (b % 2 ^ 64) (bit_and (b % 2 ^ 64) r) 1 a i f
unfolding advance move
advance_cut d b r a i f hd hr =
    ap (λ (x : ℕ). flood 64 x a i f)
    (ap₂ (λ (x y : ℕ). bit_or (bit_or x y) 1) (and_cut (d * 2 % 2 ^ 64) b r (mod-lt (d * 2) (pow_pos 64)) hr) (stays_cut d b r hd hr))

-- ---- one step

module _ (m : WideMasks) (hr : Words 64 4 (words m.repeats)) (hq : Words 64 4 (words m.optional)) (even : m.optional.w0 % 2 ≡ 0) where
  even-bit : bit (number m.optional) 0 ≡ false
  unfolding bit
  even-bit = sym (mod_bit 64 (number m.optional) 0 (omega arith)) ∙ ap (λ (x : ℕ). bit x 0) (lowest_of m.optional hq.0) ∙ ap is_set even

  -- the step of the lowest word, as the law of `Lower` has it
  lowest_step : (d : ℕ) (b : Wide) → d < 2 ^ 64
      → lower_step 63 d (number (cut b)) (bit_and (number (cut b)) (number m.repeats)) 1 (number m.optional) ≡ step_n (low_masks 63 m) 1 d b.w0
  unfolding step_with
  lowest_step d b hd =
      let eb : number (cut b) % 2 ^ 64 ≡ b.w0 % 2 ^ 64 = low_cut b in
      let er = lowest_of m.repeats hr.0 in
      let eq = lowest_of m.optional hq.0 in
      let es : bit_and (number (cut b)) (number m.repeats) % 2 ^ 64 ≡ bit_and (b.w0 % 2 ^ 64) m.repeats.w0 = and_mod (number (cut b)) (number m.repeats) 64 ∙ ap₂ bit_and eb er in
      ap₂ (λ (x y : ℕ). advance 64 d x y 1 (number m.optional % 2 ^ 64) (block_starts 64 (number m.optional % 2 ^ 64)) (block_ends 64 (number m.optional % 2 ^ 64))) eb es
      ∙ ap (λ (a : ℕ). advance 64 d (b.w0 % 2 ^ 64) (bit_and (b.w0 % 2 ^ 64) m.repeats.w0) 1 a (block_starts 64 a) (block_ends 64 a)) eq
      ∙ sym (advance_cut d b.w0 m.repeats.w0 m.optional.w0 _ _ hd hr.0)

  -- bit 63 stays clear, and the other words stay 0
  quiet_step : (d : ℕ) (b : Wide) → d < 2 ^ 63 → top_bit 63 (step_n (low_masks 63 m) 1 d b.w0) ≡ false → step_w m 1 (low d) b ≡ low (step_n (low_masks 63 m) 1 d b.w0)
  unfolding stepped
  quiet_step d b hd z =
      let x = step_n (low_masks 63 m) 1 d b.w0 in
      let b' = number (cut b) in
      let s = bit_and (number (cut b)) (number m.repeats) in
      let a = number m.optional in
      let hd' : d < 2 ^ 64 = omega arith in
      let hb = number_lt (cut b) (cut_words b) in
      let e = lowest_step d b hd' in
      let l = lower 63 256 d b' s 1 a (omega arith) hd hb (lt_of_le_of_lt (and_le_l b' (number m.repeats)) hb) (omega arith) (number_lt m.optional hq) even-bit
      (ap (λ (y : ℕ). bit y 63) e ∙ sym (top-bit 63 x) ∙ z) in
      ap (λ (y : Wide). flooded y m.optional (starts_of m.optional) (ends_of m.optional)) (moved_cut (low d) b m.repeats 1 (low-words d hd') hr)
      ∙ same_number (stepped (low d) (cut b) m.repeats m.optional 1) (low x) (stepped-words (low d) (cut b) m.repeats m.optional 1 (omega arith) (cut_words b) hq)
      (low-words x (step_lt (low_masks 63 m) 1 d b.w0 (omega arith) hd' hq.0))
      (stepped-number (low d) (cut b) m.repeats m.optional 1 (omega arith) (low-words d hd') (cut_words b) hr hq
      ∙ ap (λ (y : ℕ). whole_step 256 y b' s 1 a) (low-number d) ∙ l ∙ e ∙ sym (low-number x))

-- ---- a run

no_end : (b : Bool) (e : ℕ) (es : List ℕ) → cons_if b e es ≡ [] → (b ≡ false) × (es ≡ [])
no_end true e es h = absurd (cons≢nil h)
no_end false e es h = (refl, h)

clear-lt : (x : ℕ) → x < 2 ^ 64 → top_bit 63 x ≡ false → x < 2 ^ 63
unfolding top_bit
clear-lt x h z = let n = eqb-false (x / 2 ^ 63 % 2) 1 z in go x h n
  where
    go : (x : ℕ) → x < 2 ^ 64 → (x / 2 ^ 63 % 2 ≡ 1 → ⊥) → x < 2 ^ 63
    go x h n = omega arith

zero_above : (x j : ℕ) → 1 ≤ j → get_or (words (low x)) j 0 ≡ 0
zero_above x zero h = absurd (omega arith)
zero_above x (suc zero) h = refl
zero_above x (suc (suc zero)) h = refl
zero_above x (suc (suc (suc zero))) h = refl
zero_above x (suc (suc (suc (suc j)))) h = refl

-- no top bit above it is set
silent : (n x : ℕ) → 64 ≤ n → top_bit_of n (low x) ≡ false
unfolding top_bit_of
silent n x l = ap (top_bit (n % 64)) (zero_above x (n / 64) (omega arith)) ∙ top-bit (n % 64) 0 ∙ none-bit (n % 64)

pub record QuietRun (t : List ℕ) (m : WideMasks) (d at : ℕ) (text : List ℕ) : Type 0 where
  pub state : state_after_w (wide_automaton_of t m) (low d) text ≡ low (state_after (automaton_of (take 256 t) (low_masks 63 m)) d text)
  pub ends : ends_in_w (wide_automaton_of t m) (low d) at text ≡ []

pub quiet_run : (t : List ℕ) (m : WideMasks) → Words 64 4 (words m.repeats) → Words 64 4 (words m.optional) → m.optional.w0 % 2 ≡ 0 → 64 ≤ m.top
    → (text : List ℕ) (d at at' : ℕ) → d < 2 ^ 63 → ends_in (automaton_of (take 256 t) (low_masks 63 m)) d at' text ≡ [] → QuietRun t m d at text
unfolding state_after_w state_after ends_in_w ends_in
quiet_run t m hr hq even top [] d at at' hd z = record { state = refl; ends = refl }
quiet_run t m hr hq even top (c ∷ cs) d at at' hd z =
    let x = step_on (automaton_of (take 256 t) (low_masks 63 m)) 1 d c in
    let n = no_end (top_bit 63 x) (at' + 1) (ends_in (automaton_of (take 256 t) (low_masks 63 m)) x (at' + 1) cs) z in
    let lx = step_lt (low_masks 63 m) 1 d (get_or (take 256 t) c 0) (omega arith) (omega arith) hq.0 in
    let e = quiet_step m hr hq even d (entry_of t c) hd n.0 in
    let i = quiet_run t m hr hq even top cs x (at + 1) (at' + 1) (clear-lt x lx n.0) n.1 in
    record {
      state = ap (λ (y : Wide). state_after_w (wide_automaton_of t m) y cs) e ∙ i.state;
      ends =
          ap (λ (y : Wide). cons_if (top_bit_of m.top y) (at + 1) (ends_in_w (wide_automaton_of t m) y (at + 1) cs)) e
          ∙ ap₂ (λ (b : Bool) (es : List ℕ). cons_if b (at + 1) es) (silent m.top x top) i.ends;
    }
