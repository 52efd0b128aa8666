-- Elements with the bytes that spell them, and which of them are outer gaps of unequal bounds (note 10, "Outer gaps retired"). Assumes nothing.
use Rattle.std.specs.Prelude.{Bool, false, cond, List, [], ◌∷◌, ◌++◌, ℕ, zero, suc, pred, ◌+◌, ltb, take, drop}
use Rattle.model.specs.RuleText.{Kind, byte, any, class, gap, Element, bad, good, kind_at, often_after, mark_bytes}

-- ---- elements with their spelling

-- An element, its place in the rule text, and the bytes that spell it, its mark of how often included.
pub record Spelled : Type 0 where
  pub element : Element
  pub place : ℕ
  pub bytes : List ℕ

-- Those of a text from `place` on, as `elements_from` reads them; the first `skip` bytes belong to an element already read.
abbrev pub spelled_from : (fold : Bool) (skip place : ℕ) → List ℕ → List Spelled
spelled_from fold skip place [] = []
spelled_from fold (suc k) place (c ∷ cs) = spelled_from fold k (suc place) cs
spelled_from fold zero place (c ∷ cs) = elim (kind_at fold (c ∷ cs)) [
  | bad n ↦ []
  | good kind n ↦
      let often = often_after kind (drop n (c ∷ cs)) in
      record { element = record { kind = kind; often = often }; place = place; bytes = take (n + mark_bytes often) (c ∷ cs) }
      ∷ spelled_from fold (pred n + mark_bytes often) (suc place) cs
]

abbrev pub spelled : (fold : Bool) → List ℕ → List Spelled
spelled fold rule = spelled_from fold 0 0 rule

-- What they spell, and the elements alone.
abbrev pub text_by : List Spelled → List ℕ
text_by [] = []
text_by (s ∷ ss) = s.bytes ++ text_by ss

abbrev pub elements_by : List Spelled → List Element
elements_by [] = []
elements_by (s ∷ ss) = s.element ∷ elements_by ss

-- ---- row 16

-- "A gap of unequal bounds": a < b.
abbrev pub unequal : Kind → Bool
unequal (byte b) = false
unequal any = false
unequal (class t rs) = false
unequal (gap a b) = ltb a b

pub data Outer : Type 0 where
  inner : Outer
  outer_at : (place : ℕ) → Outer

abbrev pub first_outer : List Spelled → Outer
first_outer [] = inner
first_outer (s ∷ ss) = cond (unequal s.element.kind) (outer_at s.place) inner

abbrev pub last_outer : List Spelled → Outer
last_outer [] = inner
last_outer (s ∷ ss) = elim ss [ [] ↦ first_outer (s ∷ []) | t ∷ ts ↦ last_outer ss ]

abbrev pub either_outer : Outer → Outer → Outer
either_outer inner o = o
either_outer (outer_at p) o = outer_at p

-- "16 when a rule's first or last element is a gap with a < b, .. its place the `{` of the first such gap."
abbrev pub outer : List Spelled → Outer
outer ss = either_outer (first_outer ss) (last_outer ss)
