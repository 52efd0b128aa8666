-- The starts from a window on, and how a move leads from those of one window to those of the next. Assumes nothing.
use mathlib.Core.Path.{◌≡◌, refl, sym, ap, subst, ◌∙◌}
use mathlib.Core.Bool.{Bool, false}
use mathlib.Core.List.{List, ◌++◌, append-nil}
use Prim.Native.Nat.{ℕ, zero, suc, ◌+◌, ◌-◌, ◌≤◌, ◌<◌}
use native.Mathlib.Nat.{add-zero, zero-add}
use native.Mathlib.Omega.{arith}
use lib.ListN.{length}
use lib.Seq.{length-slice}
use Rattle.model.specs.Occurrence.{Position, StartsAt, shortest, cons_if, all_from, is_start, starts}
use Rattle.model.specs.WindowSearch.{Inhabited, window_at, shift}
use Rattle.model.proofs.Truth.{T_false}
use Rattle.model.proofs.Decided.{start-decided}
use Rattle.model.proofs.Windows.{occurs-length, shift_is, no_start-passed}
use Rattle.window_reader.specs.Reading.{last_if}
use Rattle.window_reader.proofs.Reversed.{all-last}
use Rattle.window_search.specs.Searching.{rest_starts}

all_skip : (f : ℕ → Bool) (k i n : ℕ) → ((x : ℕ) → i ≤ x → x < i + k → f x ≡ false) → all_from f i (k + n) ≡ all_from f (i + k) n
all_skip f zero i n h = rw (zero-add, add-zero)
all_skip f (suc k) i n h =
    let q : f i ≡ false = h i (omega arith) (omega arith) in
    let c : suc k + n ≡ suc (k + n) = omega arith in
    let d : suc i + k ≡ i + suc k = omega arith in
    ap (all_from f i) c ∙ ap (λ (b : Bool). cons_if b i (all_from f (suc i) (k + n))) q ∙ all_skip f k (suc i) n (λ x a b. h x (omega arith) (omega arith)) ∙ ap (λ (x : ℕ). all_from f x n) d

-- all of them
pub rest_all : (ps : List Position) (text : List ℕ) → rest_starts ps text 0 ≡ starts ps text
rest_all ps text = let e : suc (length text) - 0 ≡ suc (length text) = omega arith in ap (all_from (is_start ps text) 0) e

module _ (ps : List Position) (inhabited : Inhabited ps) (some : 1 ≤ shortest ps) (text : List ℕ) where
  start_fits : (s : ℕ) → StartsAt ps text s → s + shortest ps ≤ length text
  start_fits s (e, o) =
      let n = length-slice s e text o.inside in
      let l = occurs-length o.occurs in
      let g = o.ordered in
      let i = o.inside in
      omega arith

  none_late : (s : ℕ) → length text < s + shortest ps → is_start ps text s ≡ false
  none_late s h = T_false (is_start ps text s) (λ t. let l = start_fits s ((start-decided ps text s).0 t) in omega arith)

  -- the text's end is no start
  pub rest_back : (w : ℕ) → w ≤ length text → all_from (is_start ps text) w (length text - w) ≡ rest_starts ps text w
  rest_back w h =
      let e : suc (length text - w) ≡ suc (length text) - w = omega arith in
      let q : w + (length text - w) ≡ length text = omega arith in
      let z : is_start ps text (w + (length text - w)) ≡ false = none_late (w + (length text - w)) (omega arith) in
      sym (ap (all_from (is_start ps text) w) (sym e) ∙ all-last (is_start ps text) (length text - w) w
      ∙ ap (λ (b : Bool). all_from (is_start ps text) w (length text - w) ++ last_if b (w + (length text - w))) z ∙ append-nil (all_from (is_start ps text) w (length text - w)))

  -- no start is passed over by a move
  pub rest-move : (w : ℕ) → w + shortest ps ≤ length text
      → rest_starts ps text w ≡ cons_if (is_start ps text w) w (rest_starts ps text (w + shift ps (window_at ps text w)))
  rest-move w h =
      let j = shift ps (window_at ps text w) in
      let r = shift_is ps inhabited some (window_at ps text w) in
      let lo = r.least in
      let hi = r.most in
      let e : suc (length text) - w ≡ suc ((j - 1) + (suc (length text) - (w + j))) = omega arith in
      let k : suc w + (j - 1) ≡ w + j = omega arith in
      ap (all_from (is_start ps text) w) e
      ∙ ap (cons_if (is_start ps text w) w)
      (all_skip (is_start ps text) (j - 1) (suc w) (suc (length text) - (w + j)) (λ x a b. passed x (omega arith) (omega arith))
      ∙ ap (λ (x : ℕ). all_from (is_start ps text) x (suc (length text) - (w + j))) k)
    where
      passed : (x : ℕ) → w < x → x < w + shift ps (window_at ps text w) → is_start ps text x ≡ false
      passed x a b =
          let q : x ≡ w + (x - w) = omega arith in
          T_false (is_start ps text x) (λ t.
          no_start-passed ps inhabited some (window_at ps text w) text w refl (x - w) (omega arith) (omega arith) (subst (λ (y : ℕ). StartsAt ps text y) q ((start-decided ps text x).0 t)))
