-- Truth values, and choices by them. Assumes nothing.
use mathlib.Core.Path.{◌≡◌, refl, subst}
use mathlib.Core.Bool.{Bool, true, false, not, cond, ◌&&◌, ◌||◌}
use mathlib.Core.Logic.{◌⊎◌, inl, inr, ◌↔◌}
use lib.Dec.{T}

pub and_intro : (a b : Bool) → T a → T b → T (a && b)
and_intro true b s t = t
and_intro false b s t = s

pub and_left : (a b : Bool) → T (a && b) → T a
and_left true b t = tt
and_left false b t = t

pub and_right : (a b : Bool) → T (a && b) → T b
and_right true b t = t
and_right false b t = absurd t

pub or_cases : (a b : Bool) → T (a || b) → T a ⊎ T b
or_cases true b t = inl tt
or_cases false b t = inr t

pub or_left : (a b : Bool) → T a → T (a || b)
or_left true b t = tt
or_left false b t = absurd t

pub or_right : (a b : Bool) → T b → T (a || b)
or_right true b t = tt
or_right false b t = t

pub T-to : {a b : Bool} → a ≡ b → T a → T b
T-to e t = subst (λ (x : Bool). T x) e t

pub T_true : (b : Bool) → T b → b ≡ true
T_true true t = refl
T_true false t = absurd t

pub T_false : (b : Bool) → (T b → ⊥) → b ≡ false
T_false true f = absurd (f tt)
T_false false f = refl

-- Two tests that pass together are equal.
pub same_test : (a b : Bool) → T a ↔ T b → a ≡ b
same_test true true e = refl
same_test true false e = absurd (e.0 tt)
same_test false true e = absurd (e.1 tt)
same_test false false e = refl

-- What a choice came to, by the branch that was taken.
pub branch : {A P : Type 0} (b : Bool) {x y z : A} → cond b x y ≡ z → (T b → x ≡ z → P) → (T (not b) → y ≡ z → P) → P
branch true e f g = f tt e
branch false e f g = g tt e

pub cond_true : {A : Type 0} (b : Bool) (x y : A) → T b → cond b x y ≡ x
cond_true true x y t = refl
cond_true false x y t = absurd t

pub cond_false : {A : Type 0} (b : Bool) (x y : A) → T (not b) → cond b x y ≡ y
cond_false true x y t = absurd t
cond_false false x y t = refl

-- ---- the same as equations with false

pub or_false_left : (a b : Bool) → (a || b) ≡ false → a ≡ false
or_false_left false b e = refl
or_false_left true b e = absurd (T-to e tt)

pub or_false_right : (a b : Bool) → (a || b) ≡ false → b ≡ false
or_false_right false b e = e
or_false_right true b e = absurd (T-to e tt)

pub and-false : (b : Bool) → (b && false) ≡ false
and-false false = refl
and-false true = refl

pub not_both : (a b : Bool) → (a ≡ true → b ≡ true → ⊥) → (a && b) ≡ false
not_both false b n = refl
not_both true false n = refl
not_both true true n = absurd (n refl refl)
