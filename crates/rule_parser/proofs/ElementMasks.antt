-- The masks of one element's positions: the laws of `optional_count`, `repeat_count`, `add_element`. On plain values. Assumes nothing.
use mathlib.Core.Path.{◌≡◌, refl, sym, ap, ap₂, ◌∙◌}
use mathlib.Core.Bool.{Bool, true, false}
use Prim.Native.Nat.{ℕ, zero, suc, ◌+◌, ◌-◌, ◌*◌, ◌^◌, ◌≤◌}
use native.Mathlib.Omega.{arith}
use native.Mathlib.Nat.{add-zero, zero-mul}
use lib.ListN.{length, replicate, length-append, length-replicate}
use lib.Pow.{pow_pos}
use Rattle.model.specs.Occurrence.{Position, one_if}
use Rattle.model.specs.RuleText as Model
use Rattle.model.specs.RuleText.{byte, any, class, gap, once, optional, repeatable, both, position, positions, kind_positions}
use Rattle.byte_set.specs.declared.ByteSet.{ByteSet}
use Rattle.rule_element.specs.declared.Kind.{Kind}
use Rattle.rule_element.specs.declared.Kind.TheVariants.{Byte, Any, Class, Gap}
use Rattle.rule_element.specs.declared.Often.{Often}
use Rattle.rule_element.specs.declared.Often.TheVariants.{Once, Optional, Repeatable, Both}
use Rattle.rule_element.specs.declared.Element.{Element}
use Rattle.rule_parser.specs.declared.RuleMasks.{RuleMasks}
use Rattle.rule_element.specs.Reading.{kind_of, often_of, size_of, KindFits}
use Rattle.shift_and.specs.Masks.{mask_from}
use Rattle.shift_and.proofs.MaskLaws.{mask_append}
use Rattle.shift_and_wide.specs.declared.Wide.{Wide}
use Rattle.shift_and_wide.specs.Wides.{laid_on}
use Rattle.rule_parser.specs.Gathering.{is_optional, is_repeating, optional_ones, optional_count, repeat_ones, repeat_count, CountIs, gained_by}

-- ---- `optional_count`, `repeat_count`

optional-few : (o : Often) → optional_ones o ≤ 1
optional-few Once = omega arith
optional-few Optional = omega arith
optional-few Repeatable = omega arith
optional-few Both = omega arith

repeat_few : (o : Often) → repeat_ones o ≤ 1
repeat_few Once = omega arith
repeat_few Optional = omega arith
repeat_few Repeatable = omega arith
repeat_few Both = omega arith

module _ (k : Kind) (o : Often) where
  module _ (r : ℕ) (e : r ≡ optional_ones o) where
    few-optional : r ≤ 1
    few-optional = rw e (optional-few o)

    pub optional-byte : (b : ℕ) → k ≡ Byte b → CountIs k (optional_count k o) r
    optional-byte b q = rw q (record { is = e; few = few-optional })

    pub optional-any : k ≡ Any → CountIs k (optional_count k o) r
    optional-any q = rw q (record { is = e; few = few-optional })

    pub optional-class : (n : ByteSet) → k ≡ Class n → CountIs k (optional_count k o) r
    optional-class n q = rw q (record { is = e; few = few-optional })

  pub gap-order : (a b : ℕ) → k ≡ Gap a b → KindFits k → a ≤ b
  gap-order a b q h = let f : KindFits (Gap a b) = rw q at h in f.0

  pub optional-gap : (a b : ℕ) → k ≡ Gap a b → CountIs k (optional_count k o) (b - a)
  optional-gap a b q = rw q (record { is = refl; few = omega arith })

  module _ (r : ℕ) (e : r ≡ repeat_ones o) where
    few_repeat : r ≤ 1
    few_repeat = rw e (repeat_few o)

    pub repeat_byte : (b : ℕ) → k ≡ Byte b → CountIs k (repeat_count k o) r
    repeat_byte b q = rw q (record { is = e; few = few_repeat })

    pub repeat_any : k ≡ Any → CountIs k (repeat_count k o) r
    repeat_any q = rw q (record { is = e; few = few_repeat })

    pub repeat_class : (n : ByteSet) → k ≡ Class n → CountIs k (repeat_count k o) r
    repeat_class n q = rw q (record { is = e; few = few_repeat })

  pub repeat_gap : (a b : ℕ) → k ≡ Gap a b → CountIs k (repeat_count k o) 0
  repeat_gap a b q = rw q (record { is = refl; few = omega arith })

pub optional-within : (k : Kind) (o : Often) → optional_count k o ≤ size_of k
optional-within (Byte b) o = optional-few o
optional-within Any o = optional-few o
optional-within (Class n) o = optional-few o
optional-within (Gap a b) o = omega arith

pub repeat_within : (k : Kind) (o : Often) → repeat_count k o ≤ size_of k
repeat_within (Byte b) o = repeat_few o
repeat_within Any o = repeat_few o
repeat_within (Class n) o = repeat_few o
repeat_within (Gap a b) o = omega arith

-- ---- masks of equal positions

pub mask-all : (f : Position → Bool) (p : Position) → f p ≡ true → (n : ℕ) → mask_from f (replicate n p) ≡ 2 ^ n - 1
unfolding mask_from
mask-all f p e zero = refl
mask-all f p e (suc n) = let h = mask-all f p e n in let l = pow_pos n in let b : one_if (f p) ≡ 1 = ap one_if e in omega arith

pub mask_no : (f : Position → Bool) (p : Position) → f p ≡ false → (n : ℕ) → mask_from f (replicate n p) ≡ 0
unfolding mask_from
mask_no f p e zero = refl
mask_no f p e (suc n) = let h = mask_no f p e n in let b : one_if (f p) ≡ 0 = ap one_if e in omega arith

-- ---- an element's positions

pub kind-length : (fold : Bool) (d : Model.Kind) (o : Model.Often) → KindFits (kind_of fold d) → length (kind_positions fold d o) ≡ size_of (kind_of fold d)
kind-length fold (byte b) o h = refl
kind-length fold any o h = refl
kind-length fold (class t rs) o h = refl
kind-length fold (gap a b) o h =
    let p = position fold any optional in
    let q = position fold any once in
    let l = h.0 in
    omega (arith, length-append (replicate (b - a) p) (replicate a q), length-replicate (b - a) p, length-replicate a q)

one-optional : (o : Model.Often) → 2 ^ optional_ones (often_of o) - 1 ≡ 0 * 2 + one_if (Model.may_miss o)
one-optional once = refl
one-optional optional = refl
one-optional repeatable = refl
one-optional both = refl

one_repeat : (o : Model.Often) → 2 ^ repeat_ones (often_of o) - 1 ≡ 0 * 2 + one_if (Model.may_repeat o)
one_repeat once = refl
one_repeat optional = refl
one_repeat repeatable = refl
one_repeat both = refl

pub optional-mask : (fold : Bool) (d : Model.Kind) (o : Model.Often) → 2 ^ optional_count (kind_of fold d) (often_of o) - 1 ≡ mask_from is_optional (kind_positions fold d o)
unfolding mask_from
optional-mask fold (byte b) o = one-optional o
optional-mask fold any o = one-optional o
optional-mask fold (class t rs) o = one-optional o
optional-mask fold (gap a b) o =
    let p = position fold any optional in
    let q = position fold any once in
    sym
    (mask_append is_optional (replicate (b - a) p) (replicate a q)
    ∙ ap₂ (λ (x y : ℕ). x + y * 2 ^ length (replicate (b - a) p)) (mask-all is_optional p refl (b - a)) (mask_no is_optional q refl a)
    ∙ (let z : 2 ^ (b - a) - 1 + 0 * 2 ^ length (replicate (b - a) p) ≡ 2 ^ (b - a) - 1 = rw zero-mul (add-zero _) in z))

pub repeat_mask : (fold : Bool) (d : Model.Kind) (o : Model.Often) → 2 ^ repeat_count (kind_of fold d) (often_of o) - 1 ≡ mask_from is_repeating (kind_positions fold d o)
unfolding mask_from
repeat_mask fold (byte b) o = one_repeat o
repeat_mask fold any o = one_repeat o
repeat_mask fold (class t rs) o = one_repeat o
repeat_mask fold (gap a b) o =
    let p = position fold any optional in
    let q = position fold any once in
    sym
    (mask_append is_repeating (replicate (b - a) p) (replicate a q)
    ∙ ap₂ (λ (x y : ℕ). x + y * 2 ^ length (replicate (b - a) p)) (mask_no is_repeating p refl (b - a)) (mask_no is_repeating q refl a)
    ∙ (let z : 0 + 0 * 2 ^ length (replicate (b - a) p) ≡ 0 = rw zero-mul in z))

-- ---- `add_element`
pub gained-is : (t : RuleMasks) (e : Element) (x y n : ℕ) (o r : Wide) → CountIs e.kind (optional_count e.kind e.often) x → CountIs e.kind (repeat_count e.kind e.often) y → n ≡ size_of e.kind
    → o ≡ laid_on t.optional x (t.positions + 1) → r ≡ laid_on t.repeats y (t.positions + 1) → ◌≡◌ {A = RuleMasks} (record { positions = t.positions + n; optional = o; repeats = r }) (gained_by t e)
gained-is t e x y n o r ex ey en eo er = go (eo ∙ ap (λ (z : ℕ). laid_on t.optional z (t.positions + 1)) ex.is) (er ∙ ap (λ (z : ℕ). laid_on t.repeats z (t.positions + 1)) ey.is)
  where
    go : o ≡ laid_on t.optional (optional_count e.kind e.often) (t.positions + 1) → r ≡ laid_on t.repeats (repeat_count e.kind e.often) (t.positions + 1)
        → ◌≡◌ {A = RuleMasks} (record { positions = t.positions + n; optional = o; repeats = r }) (gained_by t e)
    go fo fr = rw (fo, fr, en)
