-- Some number below a bound passes a test (`some_below`): which one, and when none does. Assumes nothing.
use mathlib.Core.Path.{◌≡◌, refl, sym, ap₂, subst}
use mathlib.Core.Bool.{Bool, true, false, ◌||◌}
use mathlib.Core.Logic.{◌⊎◌, inl, inr}
use Prim.Native.Nat.{ℕ, zero, suc, ◌<◌}
use native.Mathlib.Omega.{arith}
use lib.Dec.{T, eqb, eqb→eq, eqb_refl}
use Rattle.model.specs.RuleText.{some_below}
use Rattle.model.proofs.Truth.{or_cases, or_left, or_right, T-to, T_false}

pub some_into : (s : ℕ → Bool) (n : ℕ) → T (some_below s n) → (x : ℕ) × (x < n) × T (s x)
some_into s zero t = absurd t
some_into s (suc n) t = go (or_cases (s n) (some_below s n) t) (some_into s n)
  where
    go : T (s n) ⊎ T (some_below s n) → (T (some_below s n) → (x : ℕ) × (x < n) × T (s x)) → (x : ℕ) × (x < suc n) × T (s x)
    go (inl h) ih = (n, omega arith, h)
    go (inr h) ih = let r = ih h in let l = r.1 in (r.0, omega arith, r.2)

pub some_out : (s : ℕ → Bool) (n x : ℕ) → x < n → T (s x) → T (some_below s n)
some_out s zero x l t = absurd (omega arith)
some_out s (suc n) x l t = go (eqb x n) refl (some_out s n x)
  where
    go : (b : Bool) → eqb x n ≡ b → (x < n → T (s x) → T (some_below s n)) → T (s n || some_below s n)
    go true q ih = or_left (s n) (some_below s n) (subst (λ (k : ℕ). T (s k)) (eqb→eq x n (T-to (sym q) tt)) t)
    go false q ih =
        let ne : x ≡ n → ⊥ = λ e. T-to q (subst (λ (k : ℕ). T (eqb x k)) e (eqb_refl x)) in
        or_right (s n) (some_below s n) (ih (omega arith) t)

pub some-none : (s : ℕ → Bool) (n : ℕ) → ((x : ℕ) → x < n → s x ≡ false) → some_below s n ≡ false
some-none s n h = T_false (some_below s n) (λ t. let r = some_into s n t in T-to (h r.0 r.1) r.2)

pub none_each : (s : ℕ → Bool) (n : ℕ) → some_below s n ≡ false → (x : ℕ) → x < n → s x ≡ false
none_each s n e x l = T_false (s x) (λ t. T-to e (some_out s n x l t))

-- two tests that agree below the bound
pub some_same : (s t : ℕ → Bool) (n : ℕ) → ((x : ℕ) → x < n → s x ≡ t x) → some_below s n ≡ some_below t n
some_same s t zero h = refl
some_same s t (suc n) h = ap₂ (λ (a b : Bool). a || b) (h n (omega arith)) (some_same s t n (λ x l. h x (omega arith)))
