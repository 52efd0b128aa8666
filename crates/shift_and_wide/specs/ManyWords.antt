-- Note 8: "the state being four 64-bit words with bit 0 as before, and the flood's borrow passing from word to word". The forward step on n words of w bits,
-- lowest first, as the machine computes it. A list stands for its first n words, and for 0 past its end. Assumes nothing.
use Rattle.std.specs.Prelude.{ℕ, zero, suc, ◌+◌, ◌-◌, ◌*◌, ◌/◌, ◌%◌, ◌^◌, ◌<◌, List, [], ◌∷◌, bit_and, bit_or, nat_lt}
use Rattle.model.specs.Occurrence.{one_if}
use Rattle.shift_and.specs.ForwardStep.{flood}

abbrev pub first : List ℕ → ℕ
first [] = 0
first (x ∷ xs) = x

abbrev pub above : List ℕ → List ℕ
above [] = []
above (x ∷ xs) = xs

-- n words as one number
unfoldable pub value : (w n : ℕ) → List ℕ → ℕ
value w zero xs = 0
value w (suc n) xs = value w n (above xs) * 2 ^ w + first xs

-- they have w bits each
abbrev pub Words : (w n : ℕ) → List ℕ → Type 0
Words w zero xs = Unit {0}
Words w (suc n) xs = (first xs < 2 ^ w) × Words w n (above xs)

-- ---- the move: c is the bit that comes in from the word below

abbrev pub move_word : (w c d b r k : ℕ) → ℕ
move_word w c d b r k = bit_or (bit_or (bit_and ((d * 2 + c) % 2 ^ w) b) (bit_and d (bit_and b r))) k

-- and this one goes out to the word above
abbrev pub carry : (w c d : ℕ) → ℕ
carry w c d = (d * 2 + c) / 2 ^ w

unfoldable pub move_words : (w n c : ℕ) (ds bs rs ks : List ℕ) → List ℕ
move_words w zero c ds bs rs ks = []
move_words w (suc n) c ds bs rs ks = move_word w c (first ds) (first bs) (first rs) (first ks) ∷ move_words w n (carry w c (first ds)) (above ds) (above bs) (above rs) (above ks)

-- ---- the flood: o is the borrow of the word below, and a word floods as it does alone, with I + o for I

abbrev pub borrows : (o d i f : ℕ) → ℕ
borrows o d i f = one_if (nat_lt (bit_or d f) (i + o))

unfoldable pub flood_words : (w n o : ℕ) (ds qs is fs : List ℕ) → List ℕ
flood_words w zero o ds qs is fs = []
flood_words w (suc n) o ds qs is fs =
    flood w (first ds) (first qs) (first is + o) (first fs) ∷ flood_words w n (borrows o (first ds) (first is) (first fs)) (above ds) (above qs) (above is) (above fs)

-- ---- the blocks: c is the lowest bit of the word above

abbrev pub lowest : (n : ℕ) → List ℕ → ℕ
lowest zero xs = 0
lowest (suc n) xs = first xs % 2

abbrev pub half : (w c a : ℕ) → ℕ
half w c a = (a + c * 2 ^ w) / 2

unfoldable pub starts_words : (w n : ℕ) (qs : List ℕ) → List ℕ
starts_words w zero qs = []
starts_words w (suc n) qs = bit_and (half w (lowest n (above qs)) (first qs)) ((2 ^ w - 1) - first qs) ∷ starts_words w n (above qs)

unfoldable pub ends_words : (w n : ℕ) (qs : List ℕ) → List ℕ
ends_words w zero qs = []
ends_words w (suc n) qs = bit_and (first qs) ((2 ^ w - 1) - half w (lowest n (above qs)) (first qs)) ∷ ends_words w n (above qs)

-- ---- one step: k is what every step sets in the lowest word

unfoldable pub step_words : (w n k : ℕ) (ds bs rs qs : List ℕ) → List ℕ
step_words w n k ds bs rs qs = flood_words w n 0 (move_words w n 0 ds bs rs (k ∷ [])) qs (starts_words w n qs) (ends_words w n qs)

-- ---- shifts alone

-- a word of 64 bits shifted up by one
abbrev pub double_of : (c x : ℕ) → ℕ
double_of c x = (x * 2 + c) % 2 ^ 64

unfoldable pub shift_words : (w n c : ℕ) (xs : List ℕ) → List ℕ
shift_words w zero c xs = []
shift_words w (suc n) c xs = (first xs * 2 + c) % 2 ^ w ∷ shift_words w n (carry w c (first xs)) (above xs)

unfoldable pub half_words : (w n : ℕ) (xs : List ℕ) → List ℕ
half_words w zero xs = []
half_words w (suc n) xs = half w (lowest n (above xs)) (first xs) ∷ half_words w n (above xs)
