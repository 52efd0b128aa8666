-- Masks of a list of positions: "bit i is position i", and bit 0, "the beginning", is no position's. Assumes nothing.
use Rattle.std.specs.Prelude.{◌≡◌, ℕ, ◌+◌, ◌*◌, ◌<◌, Bool, true, List, [], ◌∷◌, length}
use Rattle.model.specs.Occurrence.{Position, one_if}
use Rattle.shift_and.specs.Automaton.{Automaton}

-- The positions that pass a test, the first of them at bit 0 ..
unfoldable pub mask_from : (Position → Bool) → List Position → ℕ
mask_from f [] = 0
mask_from f (p ∷ ps) = mask_from f ps * 2 + one_if (f p)

-- .. and at bit 1.
abbrev pub mask : (Position → Bool) → List Position → ℕ
mask f ps = mask_from f ps * 2

abbrev pub all_mask : List Position → ℕ
all_mask ps = mask (λ p. true) ps

abbrev pub optional_mask : List Position → ℕ
optional_mask ps = mask (λ p. p.optional) ps

abbrev pub repeats_mask : List Position → ℕ
repeats_mask ps = mask (λ p. p.repeats) ps

abbrev pub admits_mask : List Position → (c : ℕ) → ℕ
admits_mask ps c = mask (λ p. p.set c) ps

-- It is the automaton of the positions: its table, its masks, in words of its width, and its top are theirs. For the positions read backwards, ps is the
-- reversed list.
pub record Encodes (a : Automaton) (ps : List Position) : Type 0 where
  pub fits : length ps < a.width
  pub is-table : (c : ℕ) → a.table c ≡ admits_mask ps c
  pub is-repeats : a.repeats ≡ repeats_mask ps
  pub is-optional : a.optional ≡ optional_mask ps
  pub is-top : a.top ≡ length ps
