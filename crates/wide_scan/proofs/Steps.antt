-- Stepping over decoded bytes in four words, from a state of a call: one run of bytes, none, and one run after another. On plain values. Assumes nothing.
use mathlib.Core.Path.{◌≡◌, refl, sym, ap, subst, ◌∙◌}
use mathlib.Core.Bool.{Bool, true, false}
use mathlib.Core.List.{List, [], ◌∷◌, ◌++◌}
use Prim.Native.Nat.{ℕ, suc, ◌+◌, ◌-◌, ◌≤◌}
use native.Mathlib.Nat.{add-zero}
use native.Mathlib.Numerals.{add-one}
use native.Mathlib.Omega.{arith}
use lib.ListN.{length, length-append}
use lib.Seq.{length-sets}
use borrow.Rule.Slice.PartMut.{put_mid, mid_of}
use Rattle.model.specs.Occurrence.{cons_if}
use Rattle.model.proofs.LentLists.{sets-append, sets-from}
use Rattle.model.proofs.Places.{Rises, rises_next}
use Rattle.shift_and_wide.specs.declared.Wide.{Wide}
use Rattle.shift_and_wide.specs.Stepping.{WideAutomaton, step_on_w, accepts_w, state_after_w, ends_in_w}
use Rattle.wide_scan.specs.declared.WideResult.{WideResult}
use Rattle.wide_scan.specs.declared.WideRun.{WideRun}
use Rattle.wide_scan.specs.Running.{WideScanned, WideStepped}

module _ (A : WideAutomaton) where
  pub stepped-words : (g : WideRun) (text ends : List ℕ) → g.count + length text ≤ length ends → (r : WideResult) (part : List ℕ)
      → WideScanned A g.d g.at text (mid_of g.count (length ends - g.count) ends) r part
      → WideStepped A g text ends (record { d = r.d; at = g.at + length text; count = g.count + r.count }) (put_mid g.count (length ends - g.count) ends part)
  stepped-words g text ends room r part x =
      let c = x.count in
      let f = x.few in
      record {
        state = x.state;
        place = refl;
        count = rw c;
        few = omega arith;
        long = ap length (ap (put_mid g.count (length ends - g.count) ends) x.list ∙ sets-from ends g.count (ends_in_w A g.d g.at text) (omega arith)) ∙ length-sets ends g.count (ends_in_w A g.d g.at text);
        list = rw x.list (sets-from ends g.count (ends_in_w A g.d g.at text) (omega arith));
      }

-- ---- one run of bytes after another

module _ (A : WideAutomaton) where
  pub state-none : (d : Wide) → state_after_w A d [] ≡ d
  unfolding state_after_w
  state-none d = refl

  pub ends-none : (d : Wide) (at : ℕ) → ends_in_w A d at [] ≡ []
  unfolding ends_in_w
  ends-none d at = refl

  pub ends-rise : (d : Wide) (at : ℕ) (xs : List ℕ) → Rises at (at + length xs) (ends_in_w A d at xs)
  unfolding ends_in_w
  ends-rise d at [] = omega arith
  ends-rise d at (x ∷ xs) =
      let k : at + 1 + length xs ≡ at + suc (length xs) = omega arith in
      let e : List ℕ = ends_in_w A (step_on_w A d x) (at + 1) xs in
      let r : Rises (at + 1) (at + suc (length xs)) e = subst (λ (l : ℕ). Rises (at + 1) l e) k (ends-rise (step_on_w A d x) (at + 1) xs) in
      subst (λ (i : ℕ). Rises at (at + suc (length xs)) (cons_if (accepts_w A (step_on_w A d x)) i e)) (sym (add-one at))
      (rises_next (accepts_w A (step_on_w A d x)) e at (at + suc (length xs)) (subst (λ (i : ℕ). Rises i (at + suc (length xs)) e) (add-one at) r))

  pub state-append : (d : Wide) (xs ys : List ℕ) → state_after_w A d (xs ++ ys) ≡ state_after_w A (state_after_w A d xs) ys
  unfolding state_after_w
  state-append d [] ys = refl
  state-append d (x ∷ xs) ys = state-append (step_on_w A d x) xs ys

  pub ends-append : (d : Wide) (at : ℕ) (xs ys : List ℕ) → ends_in_w A d at (xs ++ ys) ≡ ends_in_w A d at xs ++ ends_in_w A (state_after_w A d xs) (at + length xs) ys
  unfolding state_after_w ends_in_w
  ends-append d at [] ys = rw add-zero
  ends-append d at (x ∷ xs) ys =
      let k : at + 1 + length xs ≡ at + suc (length xs) = omega arith in
      rw (ends-append (step_on_w A d x) (at + 1) xs ys, k) (cons_append (accepts_w A (step_on_w A d x)) (at + 1) _ _)
    where
      cons_append : (b : Bool) (e : ℕ) (es fs : List ℕ) → cons_if b e (es ++ fs) ≡ cons_if b e es ++ fs
      cons_append true e es fs = refl
      cons_append false e es fs = refl

  pub stepped-none : (g : WideRun) (ends : List ℕ) → WideStepped A g [] ends g ends
  unfolding state_after_w ends_in_w
  stepped-none g ends = record { state = refl; place = sym (add-zero _); count = sym (add-zero _); few = omega arith; long = refl; list = refl }

  pub stepped-append : (g : WideRun) (xs ys ends : List ℕ) (h : WideRun) (ends' : List ℕ) (k : WideRun) (ends'' : List ℕ)
      → WideStepped A g xs ends h ends' → WideStepped A h ys ends' k ends'' → WideStepped A g (xs ++ ys) ends k ends''
  stepped-append g xs ys ends h ends' k ends'' a b =
      let l = length-append xs ys in
      let p = a.place in
      let e : ends_in_w A g.d g.at (xs ++ ys) ≡ ends_in_w A g.d g.at xs ++ ends_in_w A h.d h.at ys = rw (a.state, p) (ends-append g.d g.at xs ys) in
      let q = length-append (ends_in_w A g.d g.at xs) (ends_in_w A h.d h.at ys) in
      let c = a.count in
      let c' = b.count in
      let p' = b.place in
      let f = a.few in
      let f' = b.few in
      record {
        state = b.state ∙ rw a.state (sym (state-append g.d xs ys));
        place = omega arith;
        count = omega (arith, ap length e);
        few = omega arith;
        long = b.long ∙ a.long;
        list = b.list ∙ rw (a.list, c) (sym (rw e (sets-append ends g.count (ends_in_w A g.d g.at xs) (ends_in_w A h.d h.at ys))));
      }
