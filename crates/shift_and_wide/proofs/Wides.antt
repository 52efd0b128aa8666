-- Four words as one number: the step, the opening and the shortest length are those of document 01 at 256 bits, and the top bit is found in its word; and what
-- the functions on four words need. Assumes nothing.
use Rattle.std.proofs.Common.{◌≡◌, ℕ, zero, suc, ◌+◌, ◌-◌, ◌*◌, ◌/◌, ◌%◌, ◌^◌, ◌<◌, ◌≤◌, Bool, false, not, ◌&&◌, eqb, List, [], ◌∷◌, get_or, take, drop, sym, refl, ap, ◌∙◌, ap₂, lt_of_le_of_lt, suc-add, zero-add, one-add, arith, get_or-drop, get_or-take, shr-shr}
use Rattle.std.proofs.lemmas.Grind.{common_steps}
use native.Mathlib.Decide.{dec_lt}
use lib.Arith.{digits_div, digits_mod}
use lib.Bits.{bit_and, and_le_l}
use lib.Count.{ones-le}
use Rattle.shift_and.specs.Bit.{bit}
use Rattle.shift_and.specs.ForwardStep.{top_bit, shortest}
use Rattle.shift_and.proofs.Digits.{mod_bit}
use Rattle.shift_and.proofs.Bridge.{top-bit}
use Rattle.shift_and.proofs.Unchanged.{flood-none}
use Rattle.shift_and_wide.specs.declared.Wide.{Wide}
use Rattle.shift_and_wide.specs.declared.WideMasks.{WideMasks}
use Rattle.shift_and_wide.specs.declared.WideBlocks.{WideBlocks}
use Rattle.shift_and_wide.specs.ManyWords.{first, above, value, Words, flood_words}
use Rattle.shift_and_wide.specs.Wides.{words, number, no_bits, moved, flooded, starts_of, ends_of, stepped, top_bit_of}
use Rattle.shift_and_wide.proofs.OverWords.{required_value}
use Rattle.shift_and_wide.specs.Stepping.{RequiredIs, BlocksAre, step_w, entry_of}

-- the same words
pub same : (a b c d a' b' c' d' : ℕ) → a ≡ a' → b ≡ b' → c ≡ c' → d ≡ d' → ◌≡◌ {A = Wide} (record { w0 = a; w1 = b; w2 = c; w3 = d }) (record { w0 = a'; w1 = b'; w2 = c'; w3 = d' })
same a b c d a' b' c' d' e f g h = rw (e, f, g, h)

-- ---- none at all

flood-free : (y q i f : Wide) → q ≡ record { w0 = 0; w1 = 0; w2 = 0; w3 = 0 } → flooded y q i f ≡ y
unfolding flooded flood_words
flood-free y q i f e =
    rw e (same _ _ _ _ y.w0 y.w1 y.w2 y.w3 (flood-none 64 y.w0 _ _) (flood-none 64 y.w1 _ _) (flood-none 64 y.w2 _ _) (flood-none 64 y.w3 _ _))

-- whether there is any is told by comparing them with none
pub blocks_are : (q z i f : Wide) (r : Bool) → i ≡ starts_of q → f ≡ ends_of q → z ≡ no_bits → r ≡ not (eqb q.w0 z.w0 && (eqb q.w1 z.w1 && (eqb q.w2 z.w2 && eqb q.w3 z.w3)))
    → BlocksAre q (record { starts = i; ends = f; some = r })
blocks_are q z i f r ei ef ez er = record { starts = ei; ends = ef; none = λ e. none e }
  where
    none : r ≡ false → q ≡ record { w0 = 0; w1 = 0; w2 = 0; w3 = 0 }
    none e = grind (arith, common_steps, same q.w0 q.w1 q.w2 q.w3 0 0 0 0)

pub step_free : (d b : Wide) (k : ℕ) (m : WideMasks) (x : WideBlocks) (y : Wide) → BlocksAre m.optional x → x.some ≡ false → y ≡ moved d b m.repeats k → y ≡ step_w m k d b
unfolding stepped
step_free d b k m x y h e ey = ey ∙ sym (flood-free _ m.optional _ _ (h.none e))

-- ---- a bit in its word

-- bit m + j of x is bit j of x, shifted down by m
shr_bit : (m x j : ℕ) → bit x (m + j) ≡ bit (x / 2 ^ m) j
unfolding bit
shr_bit zero x j = ap₂ bit (omega arith) (zero-add j)
shr_bit (suc m) x j =
    ap (bit x) (suc-add m j) ∙ shr_bit m (x / 2) j ∙ ap (λ (n : ℕ). bit n j) (shr-shr x 1 m ∙ ap (λ (n : ℕ). x / 2 ^ n) (one-add m))

-- the lowest word's bits, and the bits of the words above it
word-top : (w v x j : ℕ) → x < 2 ^ w → j < w → top_bit j (v * 2 ^ w + x) ≡ top_bit j x
word-top w v x j h hj =
    top-bit j (v * 2 ^ w + x) ∙ sym (mod_bit w (v * 2 ^ w + x) j hj) ∙ ap (λ (n : ℕ). bit n j) (digits_mod v h) ∙ sym (top-bit j x)

above-top : (w v x j : ℕ) → x < 2 ^ w → top_bit (w + j) (v * 2 ^ w + x) ≡ top_bit j v
above-top w v x j h =
    top-bit (w + j) (v * 2 ^ w + x) ∙ shr_bit w (v * 2 ^ w + x) j ∙ ap (λ (n : ℕ). bit n j) (digits_div v h) ∙ sym (top-bit j v)

above_at : (w v x n : ℕ) → x < 2 ^ w → w ≤ n → top_bit n (v * 2 ^ w + x) ≡ top_bit (n - w) v
above_at w v x n h l = let e : n ≡ w + (n - w) = omega arith in ap (λ (k : ℕ). top_bit k (v * 2 ^ w + x)) e ∙ above-top w v x (n - w) h

-- the word that a test of the code looks at
module _ (d : Wide) (n : ℕ) (r : Bool) where
  in_word : (j k : ℕ) → n / 64 ≡ j → n % 64 ≡ k → r ≡ top_bit k (get_or (words d) j 0) → r ≡ top_bit_of n d
  unfolding top_bit_of
  in_word j k ej ek e = rw (ej, ek) e

  pub accepts_0 : n < 64 → r ≡ top_bit n d.w0 → r ≡ top_bit_of n d
  accepts_0 l e = in_word 0 n (omega arith) (omega arith) e

  pub accepts_1 : 64 ≤ n → n < 128 → r ≡ top_bit (n - 64) d.w1 → r ≡ top_bit_of n d
  accepts_1 m l e = in_word 1 (n - 64) (omega arith) (omega arith) e

  pub accepts_2 : 128 ≤ n → n < 192 → r ≡ top_bit (n - 128) d.w2 → r ≡ top_bit_of n d
  accepts_2 m l e = in_word 2 (n - 128) (omega arith) (omega arith) e

  pub accepts_3 : 192 ≤ n → n < 256 → r ≡ top_bit (n - 192) d.w3 → r ≡ top_bit_of n d
  accepts_3 m l e = in_word 3 (n - 192) (omega arith) (omega arith) e

get_d_first : (xs : List ℕ) → get_or xs 0 0 ≡ first xs
get_d_first [] = refl
get_d_first (x ∷ xs) = refl

get_d_above : (xs : List ℕ) (j : ℕ) → get_or xs (suc j) 0 ≡ get_or (above xs) j 0
get_d_above [] j = refl
get_d_above (x ∷ xs) j = refl

-- Bit n of any number of words is a bit of one of them.
value-top : (k n : ℕ) (xs : List ℕ) → Words 64 k xs → n < k * 64 → top_bit n (value 64 k xs) ≡ top_bit (n % 64) (get_or xs (n / 64) 0)
unfolding value
value-top zero n xs h l = absurd (omega arith)
value-top (suc k) n xs h l = go (dec_lt n 64) (value-top k (n - 64) (above xs) h.1)
  where
    go : Dec (n < 64) → (n - 64 < k * 64 → top_bit (n - 64) (value 64 k (above xs)) ≡ top_bit ((n - 64) % 64) (get_or (above xs) ((n - 64) / 64) 0)) → top_bit n (value 64 k (above xs) * 2 ^ 64 + first xs) ≡ top_bit (n % 64) (get_or xs (n / 64) 0)
    go (yes p) ih =
        let q : n / 64 ≡ 0 = omega arith in
        let r : n % 64 ≡ n = omega arith in
        rw (q, r, get_d_first) (word-top 64 (value 64 k (above xs)) (first xs) n h.0 p)
    go (no p) ih =
        let q : n / 64 ≡ suc ((n - 64) / 64) = omega arith in
        let r : n % 64 ≡ (n - 64) % 64 = omega arith in
        rw (q, r, get_d_above) (above_at 64 (value 64 k (above xs)) (first xs) n h.0 (omega arith) ∙ ih (omega arith))

-- So the top bit of four words is that of their number.
pub top-number : (n : ℕ) (d : Wide) → Words 64 4 (words d) → n < 256 → top_bit_of n d ≡ top_bit n (number d)
unfolding top_bit_of number
top-number n d h l = sym (value-top 4 n (words d) h (omega arith))

-- ---- the shortest length

pub required_is : (p q r : ℕ) → p < 2 ^ 64 → r ≡ shortest 64 p q → RequiredIs p q r
required_is p q r h e =
    record { is = e; few = rw e (ones-le 64 (bit_and p ((2 ^ 64 - 1) - q)) (lt_of_le_of_lt (and_le_l p ((2 ^ 64 - 1) - q)) h)) }

pub four_required : (p q : Wide) (n₃ n₂ n₁ n₀ : ℕ) → Words 64 4 (words p) → Words 64 4 (words q)
    → RequiredIs p.w3 q.w3 n₃ → RequiredIs p.w2 q.w2 n₂ → RequiredIs p.w1 q.w1 n₁ → RequiredIs p.w0 q.w0 n₀
    → n₃ + n₂ + n₁ + n₀ ≡ shortest 256 (number p) (number q)
unfolding number
four_required p q n₃ n₂ n₁ n₀ hp hq e₃ e₂ e₁ e₀ =
    (let z : n₃ + n₂ + n₁ + n₀ ≡ 0 + n₃ + n₂ + n₁ + n₀ = omega arith in z)
    ∙ ap₂ ◌+◌ (ap₂ ◌+◌ (ap₂ ◌+◌ (ap (◌+◌ 0) e₃.is) e₂.is) e₁.is) e₀.is
    ∙ sym (required_value 64 4 (words p) (words q) hp hq)

-- ---- a byte's entry

in_plane : (t : List ℕ) (k c : ℕ) → c < 256 → get_or t (c + k) 0 ≡ get_or (take 256 (drop k t)) c 0
in_plane t k c h = let e : c + k ≡ k + c = omega arith in ap (λ (i : ℕ). get_or t i 0) e ∙ sym (get_or-take 256 (drop k t) c 0 h ∙ get_or-drop k t c 0)

pub entry-is : (t : List ℕ) (c : ℕ) → c < 256 → ◌≡◌ {A = Wide} (record { w0 = get_or t c 0; w1 = get_or t (c + 256) 0; w2 = get_or t (c + 512) 0; w3 = get_or t (c + 768) 0 }) (entry_of t c)
entry-is t c h = same _ _ _ _ _ _ _ _ (sym (get_or-take 256 t c 0 h)) (in_plane t 256 c h) (in_plane t 512 c h) (in_plane t 768 c h)
