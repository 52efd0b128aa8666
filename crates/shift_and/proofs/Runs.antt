-- An automaton over no bytes, and over two runs of them: over the first, and then over the second; and its ends rise. Assumes nothing.
use Rattle.std.proofs.Common.{◌≡◌, ℕ, suc, ◌+◌, Bool, true, false, List, [], ◌∷◌, ◌++◌, length, sym, refl, subst, add-zero, add-one, arith}
use Rattle.model.specs.Occurrence.{cons_if}
use Rattle.model.proofs.Places.{Rises, rises_next}
use Rattle.shift_and.specs.Automaton.{Automaton, accepts, step_on, state_after, ends_in}

module _ (A : Automaton) where
  pub state-none : (d : ℕ) → state_after A d [] ≡ d
  unfolding state_after
  state-none d = refl

  pub ends-none : (d at : ℕ) → ends_in A d at [] ≡ []
  unfolding ends_in
  ends-none d at = refl

  pub ends-rise : (d at : ℕ) (xs : List ℕ) → Rises at (at + length xs) (ends_in A d at xs)
  unfolding ends_in
  ends-rise d at [] = omega arith
  ends-rise d at (x ∷ xs) =
      let k : at + 1 + length xs ≡ at + suc (length xs) = omega arith in
      let e : List ℕ = ends_in A (step_on A 1 d x) (at + 1) xs in
      let r : Rises (at + 1) (at + suc (length xs)) e = subst (λ (l : ℕ). Rises (at + 1) l e) k (ends-rise (step_on A 1 d x) (at + 1) xs) in
      subst (λ (i : ℕ). Rises at (at + suc (length xs)) (cons_if (accepts A (step_on A 1 d x)) i e)) (sym (add-one at))
      (rises_next (accepts A (step_on A 1 d x)) e at (at + suc (length xs)) (subst (λ (i : ℕ). Rises i (at + suc (length xs)) e) (add-one at) r))

  pub state-append : (d : ℕ) (xs ys : List ℕ) → state_after A d (xs ++ ys) ≡ state_after A (state_after A d xs) ys
  unfolding state_after
  state-append d [] ys = refl
  state-append d (x ∷ xs) ys = state-append (step_on A 1 d x) xs ys

  cons_append : (b : Bool) (e : ℕ) (es fs : List ℕ) → cons_if b e (es ++ fs) ≡ cons_if b e es ++ fs
  cons_append true e es fs = refl
  cons_append false e es fs = refl

  pub ends-append : (d at : ℕ) (xs ys : List ℕ) → ends_in A d at (xs ++ ys) ≡ ends_in A d at xs ++ ends_in A (state_after A d xs) (at + length xs) ys
  unfolding state_after ends_in
  ends-append d at [] ys = rw add-zero
  ends-append d at (x ∷ xs) ys =
      let k : at + 1 + length xs ≡ at + suc (length xs) = omega arith in
      rw (ends-append (step_on A 1 d x) (at + 1) xs ys, k) (cons_append (accepts A (step_on A 1 d x)) (at + 1) _ _)
