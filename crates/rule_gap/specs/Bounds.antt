-- What the readers of src/lib.rt find: the model's reading of the bytes from an index on, with the place after it instead of a
-- count of bytes; and that a reader moves on and stays within the rule. Assumes nothing.
use Rattle.std.specs.Prelude.{◌≡◌, Option, Some, None, IfSome, Bool, false, cond, List, [], ◌∷◌, ℕ, suc, ◌+◌, ◌-◌, ◌≤◌, ◌<◌, get_or, length, drop, eqb}
use Rattle.model.specs.RefusalNumbers.{gap_fault}
use Rattle.model.specs.RuleText as Model
use Rattle.model.specs.RuleText.{bad, good, gap, is_decimal, bound_at, gap_at}
use Rattle.model.specs.Ascii.{byte_of}
use Rattle.model.specs.Spelling.{unequal}
use Rattle.rule_gap.specs.declared.Bound.{Bound}
use Rattle.rule_gap.specs.declared.Gap.{Gap}

-- ---- a bound

abbrev pub digit_of : ℕ → Option ℕ
digit_of c = cond (is_decimal c) (Some (c - 48)) None

-- the digit at a place: past the end of the rule stands none
pub record ReadsDigit (s : List ℕ) (at : ℕ) (r : Option ℕ) : Type 0 where
  pub is : r ≡ digit_of (get_or s at 0)
  pub inside : IfSome r (λ d. (at < length s) × (d ≤ 9))

-- of no bytes where no digit stands
abbrev pub bound_of : ℕ → Model.Bound → Option Bound
bound_of at b = cond (eqb b.bytes 0) None (Some (record { value = b.value; next = at + b.bytes }))

pub record ReadsBound (s : List ℕ) (at : ℕ) (r : Option Bound) : Type 0 where
  pub is : r ≡ bound_of at (bound_at (drop at s))
  pub moves : IfSome r (λ b. (b.value ≤ 99) × (at < b.next) × (b.next ≤ length s))

-- ---- both bounds

-- the answer as the model's, which counts the bytes from the `{` on
abbrev pub gap_by : (at : ℕ) → Option Gap → Model.ReadKind
gap_by at None = bad gap_fault
gap_by at (Some g) = good (gap g.least g.most) (g.next - at)

-- bounds are in order and have two digits at most
abbrev pub BoundsMove : List ℕ → (at : ℕ) → Option Gap → Type 0
BoundsMove s at r = IfSome r (λ g. (at < g.next) × (g.next ≤ length s) × ((g.least ≤ g.most) × (1 ≤ g.most) × (g.most ≤ 99)))

-- the gap whose `{` stands at a place
pub record ReadsBounds (s : List ℕ) (at : ℕ) (r : Option Gap) : Type 0 where
  pub is : gap_at (drop (suc at) s) ≡ gap_by at r
  pub moves : BoundsMove s at r

-- ---- a gap with a < b

abbrev pub unequal_kind : Model.ReadKind → Bool
unequal_kind (bad n) = false
unequal_kind (good k n) = unequal k

-- such a gap begins a text
abbrev pub unequal_at : List ℕ → Bool
unequal_at [] = false
unequal_at (c ∷ cs) = cond (eqb c (byte_of "{")) (unequal_kind (gap_at cs)) false
