-- What `count_back` and `write_back` go by, over the reversed table of a list of positions: all the starts from a place on. It is the forward scan of the
-- reversed text with the reversed positions, whose ends are the starts. Assumes nothing.
use mathlib.Core.Path.{◌≡◌, refl, sym, ap, ap₂, subst, ◌∙◌}
use mathlib.Core.Bool.{Bool, true, false}
use mathlib.Core.List.{List, [], ◌∷◌, ◌++◌, reverse, reverse-cons, reverse-append, reverse-reverse}
use Prim.Native.Nat.{ℕ, zero, suc, ◌+◌, ◌-◌, ◌≤◌, ◌<◌}
use native.Mathlib.Nat.{add-zero, zero-add, suc-add}
use native.Mathlib.Omega.{arith}
use lib.ListN.{length, take, drop, get_or, length-append, length-reverse, length-drop, take-append-drop}
use lib.Seq.{drop-cons, drop-append-le, length-take-le, drop-length, take-nil, take-append_seam}
use Rattle.model.specs.Occurrence.{Position, Occurs, stretch, StartsAt, cons_if, all_from, is_start}
use Rattle.model.proofs.Truth.{same_test}
use Rattle.model.proofs.Searches as Searches
use Rattle.model.proofs.Decided.{start-decided}
use Rattle.shift_and.specs.Bit.{bit}
use Rattle.shift_and.specs.ForwardStep.{top_bit}
use Rattle.shift_and.specs.Automaton.{Automaton, opening_state}
use Rattle.shift_and.specs.Masks.{Encodes}
use Rattle.shift_and.proofs.Bridge as Bridge
use Rattle.shift_and.proofs.Bridge.{Scanned}
use Rattle.window_reader.specs.Reading.{last_if, step_at, back_n, starts_back}
use Rattle.model.proofs.Shares.{occurs-to}
use Rattle.model.proofs.Law.{Some, represents_top}

-- ---- stretches

pub take-stretch : (k j : ℕ) (text : List ℕ) → take k (drop j text) ≡ stretch text j (j + k)
take-stretch k zero text = rw zero-add
take-stretch k (suc j) [] = take-nil k ∙ rw take-nil
take-stretch k (suc j) (x ∷ text) = take-stretch k j text ∙ rw suc-add

stretch-drop : (text : List ℕ) (j e : ℕ) → j ≤ e → e ≤ length text → drop j text ≡ stretch text j e ++ drop e text
stretch-drop text j e h l =
    let k : length (take e text) ≡ e = length-take-le e text l in
    ap (λ (x : List ℕ). drop j x) (sym (take-append-drop e text)) ∙ drop-append-le j (take e text) (drop e text) (omega arith)

-- ---- an occurrence of the reversed positions that the text, read backwards as far as j, ends in is one that starts at j

module _ (ps : List Position) (text : List ℕ) (j : ℕ) (within : j ≤ length text) where
  ends-start : Some (Searches.Suffix (reverse (drop j text))) (reverse ps) → StartsAt ps text j
  ends-start s =
      let x = s.0 in
      let v = s.1.0 in
      let y = reverse x in
      let q : drop j text ≡ y ++ reverse v = sym (reverse-reverse (drop j text)) ∙ ap reverse s.1.1 ∙ reverse-append v x in
      let o : Occurs ps y = Searches.reverse-occurs ps y (occurs-to (sym (reverse-reverse x)) s.2) in
      let k : stretch text j (j + length y) ≡ y = sym (take-stretch (length y) j text) ∙ ap (take (length y)) q ∙ take-append_seam y (reverse v) in
      let l : length (drop j text) ≡ length y + length (reverse v) = ap length q ∙ length-append y (reverse v) in
      let l' : length (drop j text) ≡ length text - j = length-drop j text in
      (j + length y, record { ordered = omega arith; inside = omega arith; occurs = occurs-to (sym k) o })

  start-ends : StartsAt ps text j → Some (Searches.Suffix (reverse (drop j text))) (reverse ps)
  start-ends (e, o) =
      let y = stretch text j e in
      (reverse y, (reverse (drop e text), ap reverse (stretch-drop text j e o.ordered o.inside) ∙ reverse-append y (drop e text)), Searches.occurs-reverse o.occurs)

-- ---- the numbers that pass a test, with the last one apart

cons_append : (b : Bool) (i : ℕ) (xs ys : List ℕ) → cons_if b i (xs ++ ys) ≡ cons_if b i xs ++ ys
cons_append true i xs ys = refl
cons_append false i xs ys = refl

cons_last : (b : Bool) (i : ℕ) → cons_if b i [] ≡ last_if b i
cons_last true i = refl
cons_last false i = refl

pub all-last : (f : ℕ → Bool) (k i : ℕ) → all_from f i (suc k) ≡ all_from f i k ++ last_if (f (i + k)) (i + k)
all-last f zero i = rw add-zero (cons_last (f i) i)
all-last f (suc k) i =
    let e : suc i + k ≡ i + suc k = omega arith in
    ap (cons_if (f i) i) (all-last f k (suc i) ∙ ap (λ (x : ℕ). all_from f (suc i) k ++ last_if (f x) x) e) ∙ cons_append (f i) i (all_from f (suc i) k) (last_if (f (i + suc k)) (i + suc k))

-- ---- the backward pass

module _ (ps : List Position) (A : Automaton) (text : List ℕ) (of : Encodes A (reverse ps)) where
  np : A.top ≡ length ps
  np = of.is-top ∙ length-reverse ps

  -- d are the states when the bytes from j on have been read, backwards
  abbrev Q : ℕ → ℕ → Type 0
  Q d j = Scanned (reverse ps) (reverse (drop j text)) d

  read : (j d : ℕ) → j < length text → Q d (suc j) → Q (step_at A text 1 d j) j
  read j d h p =
      let d' = step_at A text 1 d j in
      let q : reverse (drop j text) ≡ reverse (drop (suc j) text) ++ (get_or text j 0 ∷ []) = ap reverse (drop-cons text j 0 h) ∙ reverse-cons (get_or text j 0) (drop (suc j) text) in
      subst (λ (x : List ℕ). Scanned (reverse ps) x d') (sym q)
      (Bridge.scanned_step A (reverse ps) of (reverse (drop (suc j) text)) d (get_or text j 0) p)

  top : (j d : ℕ) → j ≤ length text → Q d j → top_bit A.top d ≡ is_start ps text j
  top j d h p =
      let x = represents_top (Searches.Suffix (reverse (drop j text))) (reverse ps) (bit d) p in
      let y = start-decided ps text j in
      let e : A.top ≡ length (reverse ps) = np ∙ sym (length-reverse ps) in
      Bridge.top-bit A.top d ∙ ap (bit d) e
      ∙ same_test (bit d (length (reverse ps))) (is_start ps text j) (λ g. y.1 (ends-start ps text j h (x.0 g)), λ g. x.1 (start-ends ps text j h (y.0 g)))

  back_from : (from k d : ℕ) → from + k ≤ length text → Q d (from + k) → back_n A text from d k ≡ all_from (is_start ps text) from k
  unfolding back_n
  back_from from zero d h p = refl
  back_from from (suc k) d h p =
      let d' = step_at A text 1 d (from + k) in
      let e : from + suc k ≡ suc (from + k) = omega arith in
      let p' : Q d' (from + k) = read (from + k) d (omega arith) (subst (Q d) e p) in
      ap₂ (λ (x : List ℕ) (b : Bool). x ++ last_if b (from + k)) (back_from from k d' (omega arith) p') (top (from + k) d' (omega arith) p')
      ∙ sym (all-last (is_start ps text) k from)

  pub back-means : (from : ℕ) → from ≤ length text → starts_back A text from ≡ all_from (is_start ps text) from (length text - from)
  back-means from h =
      let e : length text ≡ from + (length text - from) = omega arith in
      let o : Q (opening_state A) (length text) =
      subst (λ (x : List ℕ). Scanned (reverse ps) (reverse x) (opening_state A)) (sym (drop-length text)) (Bridge.scanned_open A (reverse ps) of) in
      back_from from (length text - from) (opening_state A) (omega arith) (subst (Q (opening_state A)) e o)
