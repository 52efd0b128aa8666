-- `ones`, the machine's count of a word's set bits, is the number of indices at which the row of bits is set. Assumes nothing.
use Rattle.std.proofs.Common.{◌≡◌, ℕ, zero, suc, ◌+◌, ◌-◌, ◌/◌, ◌^◌, ◌<◌, Bool, not, ◌&&◌, sym, refl, ap, ◌∙◌, ap₂, le_trans, le_refl, lt_of_le_of_lt, add_assoc, arith}
use native.Mathlib.Nat.{le-suc}
use lib.Bits.{bit_and, and_le_l}
use lib.Count.{ones, ones_step}
use Rattle.shift_and.specs.Bit.{bit, count}
use Rattle.shift_and.specs.ForwardStep.{shortest}
use Rattle.model.specs.Occurrence.{one_if}
use Rattle.shift_and.proofs.Digits.{low-one_if, below_half, and_bit, not_bit}

-- the same count, taken from the low end
pub count_suc : (x : ℕ → Bool) (w : ℕ) → count x (suc w) ≡ one_if (x 0) + count (λ k. x (suc k)) w
unfolding count
count_suc x zero = omega arith
count_suc x (suc w) = ap (λ (n : ℕ). n + one_if (x (suc w))) (count_suc x w) ∙ add_assoc (one_if (x 0)) (count (λ k. x (suc k)) w) (one_if (x (suc w)))

-- it looks at no bit from w on
pub count-below : (x y : ℕ → Bool) (w : ℕ) → ((j : ℕ) → j < w → x j ≡ y j) → count x w ≡ count y w
unfolding count
count-below x y zero h = refl
count-below x y (suc w) h = ap₂ (λ (n : ℕ) (b : Bool). n + one_if b) (count-below x y w (λ j l. h j (le_trans l (le-suc w)))) (h w (le_refl (suc w)))

pub ones_count : (w x : ℕ) → x < 2 ^ w → ones x ≡ count (bit x) w
unfolding ones count bit
ones_count zero x h = let e : x ≡ 0 = omega arith in ap ones e
ones_count (suc w) x h =
    ones_step x ∙ ap₂ (λ (m n : ℕ). m + n) (sym (low-one_if x)) (ones_count w (x / 2) (below_half w h)) ∙ sym (count_suc (bit x) w)

-- the positions p that are not optional, counted
pub shortest-count : (w p a : ℕ) → p < 2 ^ w → a < 2 ^ w → shortest w p a ≡ count (λ j. bit p j && not (bit a j)) w
shortest-count w p a hp ha =
    ones_count w (bit_and p ((2 ^ w - 1) - a)) (lt_of_le_of_lt (and_le_l p ((2 ^ w - 1) - a)) hp)
    ∙ count-below (bit (bit_and p ((2 ^ w - 1) - a))) (λ j. bit p j && not (bit a j)) w
    (λ j l. and_bit p ((2 ^ w - 1) - a) j ∙ ap (λ (b : Bool). bit p j && b) (not_bit w a j ha l))
