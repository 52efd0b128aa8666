-- Four words of 64 bits, lowest first, as a struct. Assumes nothing.
use Rattle.std.specs.Prelude.{◌≡◌, ℕ, ◌-◌, ◌*◌, ◌/◌, ◌%◌, ◌^◌, ◌<◌, Bool, List, [], ◌∷◌, bit_or, slice_index}
use Rattle.shift_and.specs.ForwardStep.{top_bit}
use Rattle.shift_and_wide.specs.declared.Wide.{Wide}
use Rattle.shift_and_wide.specs.ManyWords.{first, above, value, move_words, flood_words, starts_words, ends_words}

abbrev pub words : Wide → List ℕ
words x = x.w0 ∷ x.w1 ∷ x.w2 ∷ x.w3 ∷ []

abbrev pub wide_of : List ℕ → Wide
wide_of xs = record { w0 = first xs; w1 = first (above xs); w2 = first (above (above xs)); w3 = first (above (above (above xs))) }

-- as one number of 256 bits
unfoldable pub number : Wide → ℕ
number x = value 64 4 (words x)

-- a word of a number
abbrev pub word_of : (j x : ℕ) → ℕ
word_of j x = x / 2 ^ (j * 64) % 2 ^ 64

-- its lowest four
unfoldable pub words_of : ℕ → Wide
words_of x = record { w0 = word_of 0 x; w1 = word_of 1 x; w2 = word_of 2 x; w3 = word_of 3 x }

-- a lowest word alone
abbrev pub low : ℕ → Wide
low x = record { w0 = x; w1 = 0; w2 = 0; w3 = 0 }

abbrev pub no_bits : Wide
no_bits = low 0

-- n bits from bit `from` on
abbrev pub ones_from : (n from : ℕ) → ℕ
ones_from n from = (2 ^ n - 1) * 2 ^ from

-- the mask with these bits more
unfoldable pub laid_on : (mask : Wide) (n from : ℕ) → Wide
laid_on mask n from = words_of (bit_or (number mask) (ones_from n from))

-- the parts of the step, and the step
unfoldable pub moved : (d b r : Wide) (k : ℕ) → Wide
moved d b r k = wide_of (move_words 64 4 0 (words d) (words b) (words r) (k ∷ []))

unfoldable pub flooded : (d q i f : Wide) → Wide
flooded d q i f = wide_of (flood_words 64 4 0 (words d) (words q) (words i) (words f))

unfoldable pub starts_of : Wide → Wide
starts_of q = wide_of (starts_words 64 4 (words q))

unfoldable pub ends_of : Wide → Wide
ends_of q = wide_of (ends_words 64 4 (words q))

unfoldable pub stepped : (d b r q : Wide) (k : ℕ) → Wide
stepped d b r q k = flooded (moved d b r k) q (starts_of q) (ends_of q)

-- "The opening D is 1 after the same second half."
unfoldable pub opening_of : (q : Wide) → Wide
opening_of q = flooded (low 1) q (starts_of q) (ends_of q)

-- "The top position's bit reports an end": bit n, in its word.
unfoldable pub top_bit_of : (n : ℕ) → Wide → Bool
top_bit_of n d = top_bit (n % 64) (slice_index (words d) (n / 64))

-- a bit that passes from word to word
pub record Passes (is r : ℕ) : Type 0 where
  pub bit : r ≡ is
  pub small : r < 2
