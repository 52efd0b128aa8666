-- Sets of bytes as four words of 64 bits: byte c is bit c % 64 of word c / 64. The operations are the stores that the code does;
-- `proofs/SetLaws.antt` says which bytes they hold. Assumes nothing.
use Rattle.std.specs.Prelude.{ℕ, zero, suc, ◌+◌, ◌-◌, ◌/◌, ◌%◌, ◌^◌, List, [], ◌∷◌, Bool, true, false, cond, get_or, set, eqb}
use Rattle.std.specs.Int.Bits.{bit_and, bit_or}
use Rattle.shift_and.specs.Bit.{bit}
use Rattle.model.specs.RuleText.{Range, other_case}

unfoldable pub member : List ℕ → ℕ → Bool
member w c = bit (get_or w (c / 64) 0) (c % 64)

unfoldable pub add_byte : List ℕ → ℕ → List ℕ
add_byte w c = set w (c / 64) (bit_or (get_or w (c / 64) 0) (2 ^ (c % 64)))

-- The n bytes from c on are added where f has them.
unfoldable pub add_where : (ℕ → Bool) → List ℕ → ℕ → ℕ → List ℕ
add_where f w c zero = w
add_where f w c (suc n) = add_where f (cond (f c) (add_byte w c) w) (c + 1) n

abbrev pub add_range : List ℕ → (low high : ℕ) → List ℕ
add_range w lo hi = add_where (λ c. true) w lo (suc hi - lo)

abbrev pub none : List ℕ
none = 0 ∷ 0 ∷ 0 ∷ 0 ∷ []

-- The ranges of a class, added as they are read.
unfoldable pub add_ranges : List ℕ → List Range → List ℕ
add_ranges w [] = w
add_ranges w (r ∷ rs) = add_ranges (add_range w r.low r.high) rs

-- "each class or byte set is widened by the other case of its ASCII letters ..
unfoldable pub widen : (fold : Bool) → List ℕ → List ℕ
widen fold w = cond fold (add_where (λ c. member w (other_case c)) w 65 58) w

-- .. and turned round by `^` only after that."
unfoldable pub turn : (turned : Bool) → List ℕ → List ℕ
turn turned w = cond turned ((2 ^ 64 - 1 - get_or w 0 0) ∷ (2 ^ 64 - 1 - get_or w 1 0) ∷ (2 ^ 64 - 1 - get_or w 2 0) ∷ (2 ^ 64 - 1 - get_or w 3 0) ∷ []) w

-- The bytes of one set that are not in another.
abbrev pub minus_word : (w v : List ℕ) (k : ℕ) → ℕ
minus_word w v k = bit_and (get_or w k 0) (2 ^ 64 - 1 - get_or v k 0)

unfoldable pub minus : (w v : List ℕ) → List ℕ
minus w v = minus_word w v 0 ∷ minus_word w v 1 ∷ minus_word w v 2 ∷ minus_word w v 3 ∷ []

unfoldable pub is_empty : List ℕ → Bool
is_empty w = cond (eqb (get_or w 0 0) 0) (cond (eqb (get_or w 1 0) 0) (cond (eqb (get_or w 2 0) 0) (eqb (get_or w 3 0) 0) false) false) false
