-- Masks made word by word. Assumes nothing.
use Rattle.std.proofs.Common.{◌≡◌, ℕ, suc, ◌+◌, ◌-◌, ◌*◌, ◌/◌, ◌%◌, ◌^◌, ◌<◌, ◌≤◌, Bool, true, false, not, ◌&&◌, ◌||◌, [], ◌∷◌, sym, refl, ap, ◌∙◌, ap₂, mod-lt, mod-eq_of_lt, div-add-mod', zero-add, div-one, arith, pow_pos, pow_mono, shl_lt, shr-shr, shr_lt}
use native.Mathlib.Nat.{div-eq_of_lt, zero-div}
use lib.Arith.{digits_div, digits_mod}
use lib.Bits.{bit_and, bit_or, and_lt, or_lt, or_shifted, and_shifted, and_shr, and_mod, or_shr, or_mod}
use lib.Pow.{pow-lt, ones_split, ones_lt}
use Rattle.shift_and.specs.Bit.{bit}
use Rattle.shift_and.proofs.Digits.{and_bit, or_bit, not_bit}
use Rattle.shift_and.proofs.DisjointBits.{same_bits, apart}
use Rattle.shift_and_wide.specs.declared.Wide.{Wide}
use Rattle.shift_and_wide.specs.ManyWords.{value, Words, carry, half, shift_words, half_words, double_of}
use Rattle.shift_and_wide.specs.Wides.{words, number, word_of, words_of, no_bits, ones_from, laid_on, Passes}
use Rattle.shift_and_wide.proofs.OverWords.{value-lt, shifts-value, halves_value}
use Rattle.shift_and_wide.proofs.Wides.{same}

lt_le : (x y z : ℕ) → x < y → y ≤ z → x < z
lt_le x y z p q = omega arith

-- ---- the lowest k bits

one_shifted : (n : ℕ) → n < 64 → 1 * 2 ^ n % 2 ^ 64 ≡ 2 ^ n
one_shifted n h = let e : 1 * 2 ^ n ≡ 2 ^ n = omega arith in ap (λ (x : ℕ). x % 2 ^ 64) e ∙ mod-eq_of_lt (pow-lt h)

pub some_shifted : (n : ℕ) → n < 64 → 1 ≤ 1 * 2 ^ n % 2 ^ 64
some_shifted n h = let p = pow_pos n in let e = one_shifted n h in omega arith

pub ones_are : (n : ℕ) → n < 64 → 1 * 2 ^ n % 2 ^ 64 - 1 ≡ 2 ^ n - 1
ones_are n h = ap (λ (x : ℕ). x - 1) (one_shifted n h)

-- none of them in this word
pub below_none : (k word : ℕ) → k ≤ word * 64 → 0 ≡ word_of word (2 ^ k - 1)
below_none k word h =
    let l = ones_lt k in
    let m : 2 ^ k ≤ 2 ^ (word * 64) = pow_mono h in
    sym (ap (λ (x : ℕ). x % 2 ^ 64) (div-eq_of_lt (lt_le (2 ^ k - 1) (2 ^ k) (2 ^ (word * 64)) l m)) ∙ mod-eq_of_lt (pow_pos 64))

-- the bits from bit f on
shifted_ones : (left f : ℕ) → (2 ^ (left + f) - 1) / 2 ^ f ≡ 2 ^ left - 1
shifted_ones left f = ap (λ (x : ℕ). x / 2 ^ f) (ones_split left f) ∙ digits_div (2 ^ left - 1) (ones_lt f)

from-word : (k word : ℕ) → word * 64 < k → (2 ^ k - 1) / 2 ^ (word * 64) ≡ 2 ^ (k - word * 64) - 1
from-word k word h = let e : k ≡ (k - word * 64) + word * 64 = omega arith in ap (λ (n : ℕ). (2 ^ n - 1) / 2 ^ (word * 64)) e ∙ shifted_ones (k - word * 64) (word * 64)

pub below-some : (k word r : ℕ) → word * 64 < k → k - word * 64 < 64 → r ≡ 2 ^ (k - word * 64) - 1 → r ≡ word_of word (2 ^ k - 1)
below-some k word r h l er =
    er ∙ (
    let q : k - word * 64 ≤ 64 = omega arith in
    let m : 2 ^ (k - word * 64) ≤ 2 ^ 64 = pow_mono q in
    let o = ones_lt (k - word * 64) in
    sym (ap (λ (x : ℕ). x % 2 ^ 64) (from-word k word h) ∙ mod-eq_of_lt (lt_le (2 ^ (k - word * 64) - 1) (2 ^ (k - word * 64)) (2 ^ 64) o m)))

pub below_all : (k word : ℕ) → word * 64 < k → 64 ≤ k - word * 64 → 2 ^ 64 - 1 ≡ word_of word (2 ^ k - 1)
below_all k word h l =
    let n = k - word * 64 in
    let e : k - word * 64 ≡ (k - word * 64 - 64) + 64 = omega arith in
    sym (ap (λ (x : ℕ). x % 2 ^ 64) (from-word k word h ∙ ap (λ (x : ℕ). 2 ^ x - 1) e ∙ ones_split (k - word * 64 - 64) 64) ∙ digits_mod (2 ^ (k - word * 64 - 64) - 1) (ones_lt 64))

-- ---- n bits from bit f on

pub word_or : (j x y : ℕ) → word_of j (bit_or x y) ≡ bit_or (word_of j x) (word_of j y)
word_or j x y = ap (λ (v : ℕ). v % 2 ^ 64) (or_shr x y (j * 64)) ∙ or_mod (x / 2 ^ (j * 64)) (y / 2 ^ (j * 64)) 64

word_and : (j x y : ℕ) → word_of j (bit_and x y) ≡ bit_and (word_of j x) (word_of j y)
word_and j x y = ap (λ (v : ℕ). v % 2 ^ 64) (and_shr x y (j * 64)) ∙ and_mod (x / 2 ^ (j * 64)) (y / 2 ^ (j * 64)) 64

pub word_lt : (j x : ℕ) → word_of j x < 2 ^ 64
word_lt j x = mod-lt (x / 2 ^ (j * 64)) (pow_pos 64)

bits_off : (x y : Bool) → (x && y) ≡ false → ((x || y) && not y) ≡ x
bits_off false false e = refl
bits_off false true e = refl
bits_off true false e = refl
bits_off true true e = sym e

-- what y added to x is taken away again
off : (w x y : ℕ) → x < 2 ^ w → y < 2 ^ w → bit_and x y ≡ 0 → bit_and (bit_or x y) ((2 ^ w - 1) - y) ≡ x
off w x y hx hy e =
    let l : (2 ^ w - 1) - y < 2 ^ w = let o = ones_lt w in omega arith in
    same_bits w (bit_and (bit_or x y) ((2 ^ w - 1) - y)) x (and_lt w (bit_or x y) ((2 ^ w - 1) - y) (or_lt w x y hx hy) l) hx
    (λ j h. and_bit (bit_or x y) ((2 ^ w - 1) - y) j ∙ ap₂ (λ (p q : Bool). p && q) (or_bit x y j) (not_bit w y j hy h) ∙ bits_off (bit x j) (bit y j) (apart x y e j))

pub bits_are : (n f word : ℕ) → (a b : ℕ) → a ≡ word_of word (2 ^ (f + n) - 1) → b ≡ word_of word (2 ^ f - 1)
    → bit_and a ((2 ^ 64 - 1) - b) ≡ word_of word (ones_from n f)
bits_are n f word a b ea eb =
    let X = (2 ^ n - 1) * 2 ^ f in
    let Y = 2 ^ f - 1 in
    let c : f + n ≡ n + f = omega arith in
    let z : 2 ^ (f + n) - 1 ≡ bit_or X Y = ap (λ (m : ℕ). 2 ^ m - 1) c ∙ ones_split n f ∙ sym (or_shifted (2 ^ n - 1) f Y (ones_lt f)) in
    let none : bit_and (word_of word X) (word_of word Y) ≡ 0 = sym (word_and word X Y) ∙ ap (word_of word) (and_shifted (2 ^ n - 1) f Y (ones_lt f)) ∙ zero_word word in
    ap₂ (λ (p q : ℕ). bit_and p ((2 ^ 64 - 1) - q)) (ea ∙ ap (word_of word) z ∙ word_or word X Y) eb ∙ off 64 (word_of word X) (word_of word Y) (word_lt word X) (word_lt word Y) none
  where
    zero_word : (j : ℕ) → word_of j 0 ≡ 0
    zero_word j = ap (λ (v : ℕ). v % 2 ^ 64) (zero-div (2 ^ (j * 64)))

-- ---- a number and its words

words_are : (N : ℕ) → N < 2 ^ 256 → value 64 4 (word_of 0 N ∷ word_of 1 N ∷ word_of 2 N ∷ word_of 3 N ∷ []) ≡ N
unfolding value
words_are N h =
    ap (λ (v : ℕ). ((v * 2 ^ 64 + word_of 2 N) * 2 ^ 64 + word_of 1 N) * 2 ^ 64 + word_of 0 N) top
    ∙ ap (λ (v : ℕ). (v * 2 ^ 64 + word_of 1 N) * 2 ^ 64 + word_of 0 N) (join 2 3 (shr-shr N 128 64))
    ∙ ap (λ (v : ℕ). v * 2 ^ 64 + word_of 0 N) (join 1 2 (shr-shr N 64 64))
    ∙ join 0 1 (shr-shr N 0 64) ∙ div-one N
  where
    top : 0 * 2 ^ 64 + word_of 3 N ≡ N / 2 ^ 192
    top = zero-add (word_of 3 N) ∙ mod-eq_of_lt (shr_lt 64 192 h)

    join : (j k : ℕ) → N / 2 ^ (j * 64) / 2 ^ 64 ≡ N / 2 ^ (k * 64) → N / 2 ^ (k * 64) * 2 ^ 64 + word_of j N ≡ N / 2 ^ (j * 64)
    join j k e = ap (λ (v : ℕ). v * 2 ^ 64 + word_of j N) (sym e) ∙ div-add-mod' (N / 2 ^ (j * 64)) (2 ^ 64)

-- the words of a number are its digits,
pub number-words : (x : ℕ) → x < 2 ^ 256 → number (words_of x) ≡ x
unfolding number words_of
number-words x h = words_are x h

pub words_fit : (x : ℕ) → Words 64 4 (words (words_of x))
unfolding words_of
words_fit x = (word_lt 0 x, (word_lt 1 x, (word_lt 2 x, (word_lt 3 x, tt))))

lowest-word : (q r : ℕ) → r < 2 ^ 64 → word_of 0 (q * 2 ^ 64 + r) ≡ r
lowest-word q r h = ap (λ (v : ℕ). v % 2 ^ 64) (div-one (q * 2 ^ 64 + r)) ∙ digits_mod q h

word-above : (j q r : ℕ) → r < 2 ^ 64 → word_of (suc j) (q * 2 ^ 64 + r) ≡ word_of j q
word-above j q r h =
    let x = q * 2 ^ 64 + r in
    let e : suc j * 64 ≡ 64 + j * 64 = omega arith in
    ap (λ (v : ℕ). v % 2 ^ 64) (ap (λ (n : ℕ). (q * 2 ^ 64 + r) / 2 ^ n) e ∙ sym (shr-shr (q * 2 ^ 64 + r) 64 (j * 64)) ∙ ap (λ (v : ℕ). v / 2 ^ (j * 64)) (digits_div q h))

-- and the number of words has these words
pub words-number : (d : Wide) → Words 64 4 (words d) → words_of (number d) ≡ d
unfolding number words_of value
words-number d h =
    same _ _ _ _ d.w0 d.w1 d.w2 d.w3 (lowest-word _ d.w0 h.0) (word-above 0 _ d.w0 h.0 ∙ lowest-word _ d.w1 h.1.0)
    (word-above 1 _ d.w0 h.0 ∙ word-above 0 _ d.w1 h.1.0 ∙ lowest-word _ d.w2 h.1.1.0)
    (word-above 2 _ d.w0 h.0 ∙ word-above 1 _ d.w1 h.1.0 ∙ word-above 0 _ d.w2 h.1.1.0 ∙ lowest-word 0 d.w3 h.1.1.1.0)

pub number_lt : (d : Wide) → Words 64 4 (words d) → number d < 2 ^ 256
unfolding number
number_lt d h = value-lt 64 4 (words d) h

-- ---- a mask with n bits more

bits_lt : (n f : ℕ) → f + n ≤ 256 → ones_from n f < 2 ^ 256
bits_lt n f h = let e : n + f ≤ 256 = omega arith in lt_le (ones_from n f) (2 ^ (n + f)) (2 ^ 256) (shl_lt n f (ones_lt n)) (pow_mono e)

pub number_laid : (mask : Wide) (n f : ℕ) → Words 64 4 (words mask) → f + n ≤ 256 → number (laid_on mask n f) ≡ bit_or (number mask) (ones_from n f)
unfolding laid_on
number_laid mask n f h l = number-words _ (or_lt 256 (number mask) (ones_from n f) (number_lt mask h) (bits_lt n f l))

pub laid_fits : (mask : Wide) (n f : ℕ) → Words 64 4 (words (laid_on mask n f))
unfolding laid_on
laid_fits mask n f = words_fit _

pub number-none : number no_bits ≡ 0
unfolding number value
number-none = omega arith

pub none-fits : Words 64 4 (words no_bits)
none-fits = (pow_pos 64, (pow_pos 64, (pow_pos 64, (pow_pos 64, tt))))

pub laid_is : (mask : Wide) (n f b₀ b₁ b₂ b₃ : ℕ) → Words 64 4 (words mask)
    → b₀ ≡ word_of 0 (ones_from n f) → b₁ ≡ word_of 1 (ones_from n f) → b₂ ≡ word_of 2 (ones_from n f) → b₃ ≡ word_of 3 (ones_from n f)
    → record { w0 = bit_or mask.w0 b₀; w1 = bit_or mask.w1 b₁; w2 = bit_or mask.w2 b₂; w3 = bit_or mask.w3 b₃ } ≡ laid_on mask n f
unfolding laid_on words_of
laid_is mask n f b₀ b₁ b₂ b₃ h e₀ e₁ e₂ e₃ =
    let w = words-number mask h in
    same _ _ _ _ _ _ _ _ (each 0 _ b₀ (ap (λ (d : Wide). d.w0) w) e₀) (each 1 _ b₁ (ap (λ (d : Wide). d.w1) w) e₁) (each 2 _ b₂ (ap (λ (d : Wide). d.w2) w) e₂) (each 3 _ b₃ (ap (λ (d : Wide). d.w3) w) e₃)
  where
    each : (j x b : ℕ) → word_of j (number mask) ≡ x → b ≡ word_of j (ones_from n f) → bit_or x b ≡ word_of j (bit_or (number mask) (ones_from n f))
    each j x b ex eb = sym (word_or j (number mask) (ones_from n f) ∙ ap₂ bit_or ex (sym eb))

-- ---- shifts

pub doubled_is : (x : Wide) (c c₀ c₁ c₂ y₀ y₁ y₂ y₃ : ℕ) → Passes (carry 64 c x.w0) c₀ → Passes (carry 64 c₀ x.w1) c₁ → Passes (carry 64 c₁ x.w2) c₂
    → y₀ ≡ double_of c x.w0 → y₁ ≡ double_of c₀ x.w1 → y₂ ≡ double_of c₁ x.w2 → y₃ ≡ double_of c₂ x.w3
    → number (record { w0 = y₀; w1 = y₁; w2 = y₂; w3 = y₃ }) ≡ (number x * 2 + c) % 2 ^ 256
unfolding number shift_words
doubled_is x c c₀ c₁ c₂ y₀ y₁ y₂ y₃ p₀ p₁ p₂ e₀ e₁ e₂ e₃ =
    ap (value 64 4) (go p₀.bit p₁.bit p₂.bit e₀ e₁ e₂ e₃) ∙ shifts-value 64 4 c (words x)
  where
    go : c₀ ≡ carry 64 c x.w0 → c₁ ≡ carry 64 c₀ x.w1 → c₂ ≡ carry 64 c₁ x.w2 → y₀ ≡ double_of c x.w0 → y₁ ≡ double_of c₀ x.w1 → y₂ ≡ double_of c₁ x.w2 → y₃ ≡ double_of c₂ x.w3
        → (y₀ ∷ y₁ ∷ y₂ ∷ y₃ ∷ []) ≡ shift_words 64 4 c (words x)
    go q₀ q₁ q₂ f₀ f₁ f₂ f₃ = rw (← q₀, ← q₁, ← q₂, f₀, f₁, f₂, f₃)

pub halved_is : (x : Wide) (y₀ y₁ y₂ y₃ : ℕ) → y₀ ≡ half 64 (x.w1 % 2) x.w0 → y₁ ≡ half 64 (x.w2 % 2) x.w1 → y₂ ≡ half 64 (x.w3 % 2) x.w2 → y₃ ≡ half 64 0 x.w3
    → number (record { w0 = y₀; w1 = y₁; w2 = y₂; w3 = y₃ }) ≡ number x / 2
unfolding number half_words
halved_is x y₀ y₁ y₂ y₃ e₀ e₁ e₂ e₃ = ap (value 64 4) (go e₀ e₁ e₂ e₃) ∙ halves_value 64 4 (words x) (omega arith)
  where
    go : y₀ ≡ half 64 (x.w1 % 2) x.w0 → y₁ ≡ half 64 (x.w2 % 2) x.w1 → y₂ ≡ half 64 (x.w3 % 2) x.w2 → y₃ ≡ half 64 0 x.w3
        → (y₀ ∷ y₁ ∷ y₂ ∷ y₃ ∷ []) ≡ half_words 64 4 (words x)
    go f₀ f₁ f₂ f₃ = rw (f₀, f₁, f₂, f₃)
