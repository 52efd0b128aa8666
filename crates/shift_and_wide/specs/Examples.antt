-- Document 01's edges as note 8 moves them, by computing: a carry and a block of optional positions over each border of words, repeats at bits 63, 64 and 255, the
-- top bit in each word. Assumes nothing.
use Rattle.std.specs.Prelude.{◌≡◌, ℕ, ◌+◌, ◌-◌, true, false, refl}
use Rattle.shift_and.specs.ForwardStep.{flood, top_bit}
use Rattle.shift_and_wide.specs.declared.Wide.{Wide}
use Rattle.shift_and_wide.specs.ManyWords.{flood_words, move_words, starts_words, ends_words}
use Rattle.shift_and_wide.specs.Wides.{no_bits, words_of, ones_from, moved, flooded, starts_of, ends_of, stepped, top_bit_of}

-- one bit of 256
abbrev at : ℕ → Wide
at i = words_of (ones_from 1 i)

-- bits i to j
abbrev up_to : (i j : ℕ) → Wide
up_to i j = words_of (ones_from (j + 1 - i) i)

-- a state at bit i, where the byte admits the bit after it
abbrev moves : ℕ → Wide
moves i = stepped (at i) (at (i + 1)) no_bits no_bits 0

carry_63 : moves 63 ≡ at 64
unfolding words_of stepped moved flooded starts_of ends_of move_words flood_words starts_words ends_words flood
carry_63 = refl

carry_127 : moves 127 ≡ at 128
unfolding words_of stepped moved flooded starts_of ends_of move_words flood_words starts_words ends_words flood
carry_127 = refl

carry_191 : moves 191 ≡ at 192
unfolding words_of stepped moved flooded starts_of ends_of move_words flood_words starts_words ends_words flood
carry_191 = refl

-- "bit 255 dropping out"
drops_out : moves 255 ≡ no_bits
unfolding words_of stepped moved flooded starts_of ends_of move_words flood_words starts_words ends_words flood
drops_out = refl

-- a state before a block of optional positions from i to j passes over all of it, and not over the bit after it
abbrev passes : (i j : ℕ) → Wide
passes i j = flooded (at (i - 1)) (up_to i j) (starts_of (up_to i j)) (ends_of (up_to i j))

over_64 : passes 62 66 ≡ up_to 61 66
unfolding words_of flooded starts_of ends_of flood_words starts_words ends_words flood
over_64 = refl

over_128 : passes 126 130 ≡ up_to 125 130
unfolding words_of flooded starts_of ends_of flood_words starts_words ends_words flood
over_128 = refl

over_192 : passes 190 194 ≡ up_to 189 194
unfolding words_of flooded starts_of ends_of flood_words starts_words ends_words flood
over_192 = refl

-- 254 optional positions
over-all : passes 1 254 ≡ up_to 0 254
unfolding words_of flooded starts_of ends_of flood_words starts_words ends_words flood
over-all = refl

-- a repeating position keeps its state where the byte admits it
abbrev keeps : ℕ → Wide
keeps i = stepped (at i) (at i) (at i) no_bits 0

repeat_63 : keeps 63 ≡ at 63
unfolding words_of stepped moved flooded starts_of ends_of move_words flood_words starts_words ends_words flood
repeat_63 = refl

repeat_64 : keeps 64 ≡ at 64
unfolding words_of stepped moved flooded starts_of ends_of move_words flood_words starts_words ends_words flood
repeat_64 = refl

repeat_255 : keeps 255 ≡ at 255
unfolding words_of stepped moved flooded starts_of ends_of move_words flood_words starts_words ends_words flood
repeat_255 = refl

-- the top bit in each word
tops : (top_bit_of 63 (at 63) ≡ true) × (top_bit_of 64 (at 64) ≡ true) × (top_bit_of 128 (at 128) ≡ true) × (top_bit_of 192 (at 192) ≡ true) × (top_bit_of 255 (at 255) ≡ true) × (top_bit_of 64 (at 128) ≡ false)
unfolding words_of top_bit_of top_bit
tops = (refl, refl, refl, refl, refl, refl)
