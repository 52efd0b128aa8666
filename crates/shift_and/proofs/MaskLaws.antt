-- The masks of a list of positions: their bits, their size, and masks of lists that are joined. Assumes nothing.
use Rattle.std.proofs.Common.{◌≡◌, ℕ, zero, suc, ◌+◌, ◌*◌, ◌^◌, ◌<◌, ◌≤◌, Bool, true, false, List, [], ◌∷◌, ◌++◌, length, sym, ap, ◌∙◌, le_of_suc-le-suc, not-suc-le-zero, mul_assoc, pow-suc, arith, pow_mono}
use Rattle.model.specs.Occurrence.{Position, one_if}
use Rattle.model.proofs.Law.{nth}
use Rattle.shift_and.specs.Bit.{bit}
use Rattle.shift_and.specs.Masks.{mask_from, mask}
use Rattle.shift_and.proofs.Digits.{push_bit}

mask_nth : (f : Position → Bool) (ps : List Position) (i : ℕ) → i < length ps → bit (mask_from f ps) i ≡ f (nth ps i)
unfolding mask_from
mask_nth f [] i h = absurd (not-suc-le-zero h)
mask_nth f (p ∷ ps) zero h = push_bit (f p) (mask_from f ps) 0
mask_nth f (p ∷ ps) (suc i) h = push_bit (f p) (mask_from f ps) (suc i) ∙ mask_nth f ps i (le_of_suc-le-suc h)

module _ (f : Position → Bool) (ps : List Position) where
  up : (j : ℕ) → bit (mask f ps) j ≡ bit (mask_from f ps * 2 + 0) j
  up j = let e : mask_from f ps * 2 ≡ mask_from f ps * 2 + 0 = omega arith in ap (λ (n : ℕ). bit n j) e

  pub mask_up : (j : ℕ) → bit (mask f ps) (suc j) ≡ bit (mask_from f ps) j
  mask_up j = up (suc j) ∙ push_bit false (mask_from f ps) (suc j)

  pub mask_low : bit (mask f ps) 0 ≡ false
  mask_low = up 0 ∙ push_bit false (mask_from f ps) 0

  pub mask-bit : (i : ℕ) → i < length ps → bit (mask f ps) (suc i) ≡ f (nth ps i)
  mask-bit i h = mask_up i ∙ mask_nth f ps i h

pub mask-small : (f : Position → Bool) (ps : List Position) → mask_from f ps < 2 ^ length ps
unfolding mask_from
mask-small f [] = omega arith
mask-small f (p ∷ ps) = go (f p) (mask-small f ps)
  where
    go : (b : Bool) → mask_from f ps < 2 ^ length ps → mask_from f ps * 2 + one_if b < 2 ^ suc (length ps)
    go true h = omega arith
    go false h = omega arith

pub mask_fits : (w : ℕ) (f : Position → Bool) (ps : List Position) → length ps < w → mask f ps < 2 ^ w
mask_fits w f ps h =
    let a = mask-small f ps in
    let b : 2 ^ suc (length ps) ≤ 2 ^ w = pow_mono h in
    let c : 2 ^ suc (length ps) ≡ 2 ^ length ps * 2 = pow-suc 2 (length ps) in
    omega arith

pub mask_append : (f : Position → Bool) (ps qs : List Position) → mask_from f (ps ++ qs) ≡ mask_from f ps + mask_from f qs * 2 ^ length ps
unfolding mask_from
mask_append f [] qs = omega arith
mask_append f (p ∷ ps) qs =
    let h = mask_append f ps qs in
    let e : mask_from f qs * 2 ^ suc (length ps) ≡ mask_from f qs * 2 ^ length ps * 2 = ap (λ (x : ℕ). mask_from f qs * x) (pow-suc 2 (length ps)) ∙ sym (mul_assoc (mask_from f qs) (2 ^ length ps) 2) in
    omega arith
