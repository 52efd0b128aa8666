-- The masks of positions read by fit: a code's entry is the union of the entries of its set's bytes; every other entry, and the masks of the repeating and the
-- optional positions, stay. Assumes nothing.
use mathlib.Core.Path.{◌≡◌, refl, sym, ap, ap₂, ◌∙◌}
use mathlib.Core.Bool.{Bool, true, false, cond, ◌&&◌, ◌||◌}
use mathlib.Core.List.{List, [], ◌∷◌}
use Prim.Native.Nat.{ℕ, zero, suc, ◌+◌, ◌*◌, ◌<◌}
use lib.Bits.{bit_or, or_comm}
use lib.ListN.{length, get_or}
use Rattle.model.specs.Occurrence.{Position, one_if}
use Rattle.model.specs.RuleText.{one_of, some_below}
use Rattle.model.specs.Codes.{Code, in_set, codes_of, named_twice, share, fits, fitting_one, fitting}
use Rattle.model.proofs.Fitting.{fits-plain, fits-code}
use Rattle.shift_and.specs.Bit.{bit}
use Rattle.shift_and.specs.Masks.{mask_from, mask, admits_mask, optional_mask, repeats_mask}
use Rattle.shift_and.proofs.Digits.{or_bit, push_bit, none-bit}
use Rattle.shift_and.proofs.DisjointBits.{same-all}
use Rattle.shift_and.proofs.MaskLaws.{mask_up, mask_low}
use Rattle.code_table.specs.CodeTables.{set_at}

-- ---- a test that is one of two

from_or : (f g : Position → Bool) (ps : List Position) (j : ℕ) → bit (mask_from (λ p. f p || g p) ps) j ≡ (bit (mask_from f ps) j || bit (mask_from g ps) j)
unfolding mask_from
from_or f g [] j = none-bit j ∙ sym (ap₂ (λ (a b : Bool). a || b) (none-bit j) (none-bit j))
from_or f g (p ∷ ps) zero =
    push_bit (f p || g p) (mask_from (λ p. f p || g p) ps) 0 ∙ sym (ap₂ (λ (a b : Bool). a || b) (push_bit (f p) (mask_from f ps) 0) (push_bit (g p) (mask_from g ps) 0))
from_or f g (p ∷ ps) (suc j) =
    push_bit (f p || g p) (mask_from (λ p. f p || g p) ps) (suc j) ∙ from_or f g ps j
    ∙ sym (ap₂ (λ (a b : Bool). a || b) (push_bit (f p) (mask_from f ps) (suc j)) (push_bit (g p) (mask_from g ps) (suc j)))

mask_or : (f g : Position → Bool) (ps : List Position) → mask (λ p. f p || g p) ps ≡ bit_or (mask f ps) (mask g ps)
mask_or f g ps = same-all (mask (λ p. f p || g p) ps) (bit_or (mask f ps) (mask g ps)) (λ j. at j ∙ sym (or_bit (mask f ps) (mask g ps) j))
  where
    at : (j : ℕ) → bit (mask (λ p. f p || g p) ps) j ≡ (bit (mask f ps) j || bit (mask g ps) j)
    at zero = mask_low (λ p. f p || g p) ps ∙ sym (ap₂ (λ (a b : Bool). a || b) (mask_low f ps) (mask_low g ps))
    at (suc j) = mask_up (λ p. f p || g p) ps j ∙ from_or f g ps j ∙ sym (ap₂ (λ (a b : Bool). a || b) (mask_up f ps j) (mask_up g ps j))

-- ---- tests that agree, and one that is false throughout

from-same : (f g : Position → Bool) (ps : List Position) → ((p : Position) → f p ≡ g p) → mask_from f ps ≡ mask_from g ps
unfolding mask_from
from-same f g [] h = refl
from-same f g (p ∷ ps) h = ap₂ (λ (m : ℕ) (b : Bool). m * 2 + one_if b) (from-same f g ps h) (h p)

mask-same : (f g : Position → Bool) (ps : List Position) → ((p : Position) → f p ≡ g p) → mask f ps ≡ mask g ps
mask-same f g ps h = ap (λ (m : ℕ). m * 2) (from-same f g ps h)

from-none : (ps : List Position) → mask_from (λ p. false) ps ≡ 0
unfolding mask_from
from-none [] = refl
from-none (p ∷ ps) = ap (λ (m : ℕ). m * 2 + 0) (from-none ps)

mask-none : (ps : List Position) → mask (λ p. false) ps ≡ 0
mask-none ps = ap (λ (m : ℕ). m * 2) (from-none ps)

-- ---- the entry of a set

-- the positions that share one of the bytes below n with a set
abbrev pub share_mask : (ℕ → Bool) → List Position → (n : ℕ) → ℕ
share_mask s ps n = mask (λ p. some_below (λ x. s x && p.set x) n) ps

pub share_zero : (s : ℕ → Bool) (ps : List Position) → share_mask s ps 0 ≡ 0
share_zero s ps = mask-none ps

-- one byte more: its entry, if it is in the set
pub share-more : (s : ℕ → Bool) (ps : List Position) (n : ℕ) → share_mask s ps (suc n) ≡ cond (s n) (bit_or (share_mask s ps n) (admits_mask ps n)) (share_mask s ps n)
share-more s ps n = go (s n)
  where
    go : (b : Bool) → mask (λ p. (b && p.set n) || some_below (λ x. s x && p.set x) n) ps ≡ cond b (bit_or (share_mask s ps n) (admits_mask ps n)) (share_mask s ps n)
    go true = mask_or (λ p. p.set n) (λ p. some_below (λ x. s x && p.set x) n) ps ∙ or_comm (admits_mask ps n) (share_mask s ps n)
    go false = refl

-- ---- the masks of the positions read by fit

module _ (ks : List Code) where
  from-fitting : (f : Position → Bool) (ps : List Position) → mask_from f (fitting ks ps) ≡ mask_from (λ p. f (fitting_one ks p)) ps
  unfolding mask_from
  from-fitting f [] = refl
  from-fitting f (p ∷ ps) = ap (λ (m : ℕ). m * 2 + one_if (f (fitting_one ks p))) (from-fitting f ps)

  pub fitting-optional : (ps : List Position) → optional_mask (fitting ks ps) ≡ optional_mask ps
  fitting-optional ps = ap (λ (m : ℕ). m * 2) (from-fitting (λ p. p.optional) ps)

  pub fitting-repeats : (ps : List Position) → repeats_mask (fitting ks ps) ≡ repeats_mask ps
  fitting-repeats ps = ap (λ (m : ℕ). m * 2) (from-fitting (λ p. p.repeats) ps)

  fitting_admits : (ps : List Position) (c : ℕ) → admits_mask (fitting ks ps) c ≡ mask (λ p. fits ks p.set c) ps
  fitting_admits ps c = ap (λ (m : ℕ). m * 2) (from-fitting (λ p. p.set c) ps)

module _ (codes sets : List ℕ) (ps : List Position) where
  -- a byte that is no code
  pub plain_entry : (c : ℕ) → one_of codes c ≡ false → admits_mask (fitting (codes_of codes sets) ps) c ≡ admits_mask ps c
  plain_entry c e =
      fitting_admits (codes_of codes sets) ps c
      ∙ mask-same (λ p. fits (codes_of codes sets) p.set c) (λ p. p.set c) ps (λ p. fits-plain codes sets p.set c e)

  -- the k-th code
  pub code-entry : (k : ℕ) → k < length codes → named_twice codes ≡ false → admits_mask (fitting (codes_of codes sets) ps) (get_or codes k 0) ≡ share_mask (in_set (set_at sets k)) ps 256
  code-entry k l e =
      let s = in_set (set_at sets k) in
      fitting_admits (codes_of codes sets) ps (get_or codes k 0)
      ∙ mask-same (λ p. fits (codes_of codes sets) p.set (get_or codes k 0)) (λ p. share s p.set) ps (λ p. fits-code codes sets p.set k l e)
