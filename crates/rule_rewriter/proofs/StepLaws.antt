-- One step: the laws of `gap_step`, `step_of` and `cut_after`, and what a step makes of the first element and of the last. On plain values. Assumes nothing.
use mathlib.Core.Path.{◌≡◌, refl, sym, ap, ap₂, ◌∙◌}
use mathlib.Core.Bool.{Bool, true, false, cond}
use mathlib.Core.List.{List, [], ◌∷◌, ◌++◌, reverse, reverse-cons, reverse-append, reverse-reverse}
use Prim.Native.Nat.{ℕ, zero, suc, ◌≤◌, ◌<◌}
use native.Mathlib.Omega.{arith}
use lib.Dec.{ltb}
use borrow.Author.Tests.{lt-ltb, le-ltb}
use Rattle.model.specs.RuleText as Model
use Rattle.model.specs.RuleText.{position_limit, byte, any, class, gap}
use Rattle.model.specs.Spelling.{Spelled}
use Rattle.model.specs.Rewriter.{dots, dotted, kind_dotted, from_front, from_back}
use Rattle.rule_element.specs.declared.Kind.{Kind}
use Rattle.rule_element.specs.declared.Kind.TheVariants.{Byte, Any, Class, Gap}
use Rattle.rule_element.specs.Reading.{kind_of, KindFits}
use Rattle.rule_spelling.proofs.OuterLaws.{dots-reverse}
use Rattle.std.specs.Prelude.{Option, None, Some}
use Rattle.rule_rewriter.specs.declared.Cut.{Cut}
use Rattle.rule_rewriter.specs.Rewriting.{step_of, cut_by}

-- ---- `gap_step`, `step_of`

pub gap-dots : (a b : ℕ) → a < b → Some a ≡ step_of (Gap a b)
gap-dots a b l = rw (lt-ltb a b l)

pub gap-stays : (a b : ℕ) → b ≤ a → None ≡ step_of (Gap a b)
gap-stays a b l = rw (le-ltb a b l)

pub step_gap : (k : Kind) (a b : ℕ) → k ≡ Gap a b → (x : Option ℕ) → x ≡ step_of (Gap a b) → x ≡ step_of k
step_gap k a b e x ex = ex ∙ ap step_of (sym e)

-- dots are as few as a gap's positions
pub step_few : (k : Kind) → KindFits k → (a : ℕ) → Some a ≡ step_of k → a ≤ position_limit
step_few (Byte b) h a e = let z : ◌≡◌ {A = ℕ} 0 1 = cc in absurd (omega arith)
step_few Any h a e = let z : ◌≡◌ {A = ℕ} 0 1 = cc in absurd (omega arith)
step_few (Class n) h a e = let z : ◌≡◌ {A = ℕ} 0 1 = cc in absurd (omega arith)
step_few (Gap c b) h a e = go (ltb c b) e
  where
    go : (x : Bool) → Some a ≡ cond x (Some c) None → a ≤ position_limit
    go true e = let z : a ≡ c = cc in let l = h.0 in let m = h.2 in omega arith
    go false e = let z : ◌≡◌ {A = ℕ} 0 1 = cc in absurd (omega arith)

-- ---- `cut_after`

module _ (k : Kind) (at next : ℕ) (before : Cut) (x : Option ℕ) (ex : x ≡ step_of k) where
  pub cut_stays : x ≡ None → ◌≡◌ {A = Cut} (record { to = next; dots = 0 }) (cut_by (step_of k) at next before)
  cut_stays e = ap (λ (y : Option ℕ). cut_by y at next before) (sym e ∙ ex)

  pub cut_kept : (a : ℕ) → x ≡ Some a → a ≡ 0 → before ≡ cut_by (step_of k) at next before
  cut_kept a e z = ap (λ (y : Option ℕ). cut_by y at next before) (sym (ap Some z) ∙ sym e ∙ ex)

  pub cut_dots : (a : ℕ) → x ≡ Some a → (a ≡ 0 → ⊥) → ◌≡◌ {A = Cut} (record { to = at; dots = a }) (cut_by (step_of k) at next before)
  cut_dots a e n = go a n ∙ ap (λ (y : Option ℕ). cut_by y at next before) (sym e ∙ ex)
    where
      go : (a : ℕ) → (a ≡ 0 → ⊥) → ◌≡◌ {A = Cut} (record { to = at; dots = a }) (cut_by (Some a) at next before)
      go zero n = absurd (n refl)
      go (suc a) n = refl

-- ---- what it makes of the first element, before `ss`, and of the last, after `ts`

abbrev pub front_by : Option ℕ → (ss rest whole : List Spelled) → List Spelled
front_by None ss rest whole = whole
front_by (Some zero) ss rest whole = rest
front_by (Some (suc a)) ss rest whole = dots (suc a) ++ ss

abbrev pub back_by : Option ℕ → (ts rest whole : List Spelled) → List Spelled
back_by None ts rest whole = whole
back_by (Some zero) ts rest whole = rest
back_by (Some (suc a)) ts rest whole = ts ++ dots (suc a)

module _ (fold : Bool) (s : Spelled) where
  abbrev pub step_at : Option ℕ
  step_at = step_of (kind_of fold s.element.kind)

  pub front_by_lem : (ss : List Spelled) → from_front (s ∷ ss) ≡ front_by step_at ss (from_front ss) (s ∷ ss)
  front_by_lem ss = by_kind s.element.kind
    where
      by_kind : (k : Model.Kind) → kind_dotted k ss (from_front ss) (s ∷ ss) ≡ front_by (step_of (kind_of fold k)) ss (from_front ss) (s ∷ ss)
      by_kind (byte b) = refl
      by_kind any = refl
      by_kind (class t rs) = refl
      by_kind (gap a b) = by_test a (ltb a b)
        where
          by_test : (n : ℕ) (x : Bool) → dotted n b x ss (from_front ss) (s ∷ ss) ≡ front_by (cond x (Some n) None) ss (from_front ss) (s ∷ ss)
          by_test n false = refl
          by_test zero true = refl
          by_test (suc n) true = refl

  pub back_by_lem : (ts : List Spelled) → from_back (ts ++ (s ∷ [])) ≡ back_by step_at ts (from_back ts) (ts ++ (s ∷ []))
  back_by_lem ts = ap (λ (l : List Spelled). reverse (from_front l)) (reverse-append ts (s ∷ [])) ∙ ap reverse (front_by_lem (reverse ts)) ∙ turned step_at
    where
      turned : (x : Option ℕ) → reverse (front_by x (reverse ts) (from_front (reverse ts)) (s ∷ reverse ts)) ≡ back_by x ts (from_back ts) (ts ++ (s ∷ []))
      turned None = reverse-cons s (reverse ts) ∙ ap (λ (l : List Spelled). l ++ (s ∷ [])) (reverse-reverse ts)
      turned (Some zero) = refl
      turned (Some (suc a)) = reverse-append (dots (suc a)) (reverse ts) ∙ ap₂ (λ (l m : List Spelled). l ++ m) (reverse-reverse ts) (dots-reverse (suc a))
