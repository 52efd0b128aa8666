-- What `window_shift` computes over the reversed table of a list of positions: the published shift of the window, and whether its bytes begin a string that
-- the rule admits. Assumes nothing.
use mathlib.Core.Path.{◌≡◌, refl, sym, ap, ap₂, subst, ◌∙◌}
use mathlib.Core.Bool.{Bool, true, false, cond}
use mathlib.Core.List.{List, [], ◌∷◌, ◌++◌, reverse, reverse-cons}
use Prim.Native.Nat.{ℕ, zero, suc, ◌+◌, ◌-◌, ◌≤◌, ◌<◌}
use native.Mathlib.Nat.{add-zero, zero-add}
use native.Mathlib.Omega.{arith}
use lib.Dec.{eqb}
use lib.ListN.{length-reverse, length, drop, get_or, drop_of_length-le, length-take, length-drop}
use lib.Seq.{drop-cons, get_or-take, get_or-drop}
use borrow.Author.Tests.{eqb-true}
use Rattle.model.specs.Occurrence.{Position, shortest}
use Rattle.model.specs.WindowSearch.{Inhabited, is_beginning, least_from, window_at, shift}
use Rattle.model.proofs.Law.{Steps}
use Rattle.model.proofs.Searches as Searches
use Rattle.shift_and.specs.Bit.{bit}
use Rattle.shift_and.specs.ForwardStep.{top_bit}
use Rattle.shift_and.specs.Automaton.{Automaton, all_states}
use Rattle.shift_and.specs.Masks.{Encodes, admits_mask}
use Rattle.shift_and.proofs.Digits.{none-bit}
use Rattle.shift_and.proofs.Bridge as Bridge
use Rattle.shift_and.proofs.Bridge.{Backward, backward-top}
use Rattle.window_reader.specs.Reading.{step_at, seen_n}
use Rattle.window_reader.proofs.Steps.{none-steps, unknown_steps}

-- ---- the least number that passes a test

pub least_skip : (f : ℕ → Bool) (k i n e : ℕ) → ((x : ℕ) → i ≤ x → x < i + k → f x ≡ false) → least_from f i (k + n) e ≡ least_from f (i + k) n e
least_skip f zero i n e h = rw (zero-add, add-zero)
least_skip f (suc k) i n e h =
    let q : f i ≡ false = h i (omega arith) (omega arith) in
    let c : suc k + n ≡ suc (k + n) = omega arith in
    let d : suc i + k ≡ i + suc k = omega arith in
    ap (λ (x : ℕ). least_from f i x e) c ∙ least_false q ∙ least_skip f k (suc i) n e (λ x a b. h x (omega arith) (omega arith)) ∙ ap (λ (x : ℕ). least_from f x n e) d
  where
    least_false : f i ≡ false → least_from f i (suc (k + n)) e ≡ least_from f (suc i) (k + n) e
    least_false q = rw (q, least_from)

least-next : (f : ℕ → Bool) (i k n e last : ℕ) → k ≡ suc n → last ≡ least_from f (suc i) n e → cond (f i) i last ≡ least_from f i k e
least-next f i k n e last c q = rw (c, q) (go (f i) refl)
  where
    go : (b : Bool) → f i ≡ b → cond (f i) i (least_from f (suc i) n e) ≡ least_from f i (suc n) e
    go true h = rw (h, least_from)
    go false h = rw (h, least_from)

module _ (ps : List Position) (inhabited : Inhabited ps) (A : Automaton) (text : List ℕ)
    (of : Encodes A (reverse ps)) (w : ℕ) (fits : w + shortest ps ≤ length text) where
  np : A.top ≡ length ps
  np = of.is-top ∙ length-reverse ps

  -- the bytes from j on begin a string that the rule admits
  abbrev F : ℕ → Bool
  F j = is_beginning ps (drop j (window_at ps text w))

  -- d are the states when the window's bytes from j on have been read
  abbrev P : ℕ → ℕ → Type 0
  P d j = Backward ps (reverse (drop j (window_at ps text w))) d

  window_length : length (window_at ps text w) ≡ shortest ps
  window_length = simp (length-take, length-drop) (omega arith)

  window_byte : (j : ℕ) → j < shortest ps → get_or (window_at ps text w) j 0 ≡ get_or text (w + j) 0
  window_byte j h = get_or-take (shortest ps) (drop w text) j 0 h ∙ get_or-drop w text j 0

  -- one more byte
  one_more : (j d d' : ℕ) → j < shortest ps → Steps false (reverse ps) (get_or text (w + j) 0) (bit d) (bit d') → P d (suc j) → P d' j
  one_more j d d' h s p =
      let W = window_at ps text w in
      let l : j < length W = omega (arith, window_length) in
      let q : reverse (drop j W) ≡ reverse (drop (suc j) W) ++ (get_or text (w + j) 0 ∷ []) =
      ap reverse (drop-cons W j 0 l) ∙ reverse-cons (get_or W j 0) (drop (suc j) W) ∙ ap (λ (c : ℕ). reverse (drop (suc j) W) ++ (c ∷ [])) (window_byte j h) in
      subst (λ (x : List ℕ). Backward ps x d') (sym q)
      (Searches.backward_step (reverse ps) (reverse (drop (suc j) W)) (get_or text (w + j) 0) (bit d) (bit d') s p)

  read : (j d : ℕ) → j < shortest ps → P d (suc j) → P (step_at A text 0 d (w + j)) j
  read j d h p =
      one_more j d (step_at A text 0 d (w + j)) h
      (Bridge.word-steps A (reverse ps) of false (get_or text (w + j) 0) d) p

  -- the top bit
  top : (j d : ℕ) → P d j → top_bit A.top d ≡ F j
  top j d p = ap (λ (n : ℕ). top_bit n d) np ∙ backward-top ps inhabited (drop j (window_at ps text w)) d p

  none-top : (j : ℕ) → P 0 j → F j ≡ false
  none-top j p = sym (top j 0 p) ∙ Bridge.top-bit A.top 0 ∙ none-bit A.top

  -- once no state is left, nothing begins at an earlier place
  none_down : (k i : ℕ) → i + k ≤ shortest ps → P 0 (i + k) → P 0 i
  none_down zero i h p = subst (P 0) (add-zero i) p
  none_down (suc k) i h p =
      let e : i + suc k ≡ suc i + k = omega arith in
      one_more i 0 0 (omega arith) (none-steps (reverse ps) (get_or text (w + i) 0)) (none_down k (suc i) (omega arith) (subst (P 0) e p))

  none_before : (j i : ℕ) → i ≤ j → j ≤ shortest ps → P 0 j → F i ≡ false
  none_before j i h l p =
      let e : j ≡ i + (j - i) = omega arith in
      none-top i (none_down (j - i) i (omega arith) (subst (P 0) e p))

  -- what is left to be read gives the least place
  seen_from : (j d last : ℕ) → j < shortest ps → P d (suc j) → last ≡ least_from F (suc j) (shortest ps - suc j) (shortest ps)
      → seen_n A text w d last j ≡ record { shift = shift ps (window_at ps text w); hit = F 0 }
  unfolding seen_n
  seen_from zero d last h p q =
      let e : top_bit A.top (step_at A text 0 d (w + 0)) ≡ F 0 = top 0 (step_at A text 0 d (w + 0)) (read 0 d h p) in
      rw (q, ← e, add-zero)
  seen_from (suc j) d last h p q = go (eqb d' 0) refl (seen_from j d' (cond (top_bit A.top d') (suc j) last) (omega arith) p')
    where
      d' : ℕ
      d' = step_at A text 0 d (w + suc j)

      p' : P d' (suc j)
      p' = read (suc j) d h p

      go : (b : Bool) → eqb d' 0 ≡ b
          → (cond (top_bit A.top d') (suc j) last ≡ least_from F (suc j) (shortest ps - suc j) (shortest ps)
          → seen_n A text w d' (cond (top_bit A.top d') (suc j) last) j ≡ record { shift = shift ps (window_at ps text w); hit = F 0 })
          → seen_n A text w d last (suc j) ≡ record { shift = shift ps (window_at ps text w); hit = F 0 }
      go true z ih =
          let e : d' ≡ 0 = eqb-true d' 0 z in
          let p0 : P 0 (suc j) = subst (λ (x : ℕ). P x (suc j)) e p' in
          let c : suc j + (shortest ps - suc (suc j)) ≡ shortest ps - 1 = omega arith in
          let i : 1 + suc j ≡ suc (suc j) = omega arith in
          let s : last ≡ shift ps (window_at ps text w) =
          q ∙ ap (λ (x : ℕ). least_from F x (shortest ps - suc (suc j)) (shortest ps)) (sym i)
          ∙ sym (least_skip F (suc j) 1 (shortest ps - suc (suc j)) (shortest ps) (λ x f g. none_before (suc j) x (omega arith) (omega arith) p0))
          ∙ ap (λ (x : ℕ). least_from F 1 x (shortest ps)) c in
          let k : false ≡ F 0 = sym (none_before (suc j) 0 (omega arith) (omega arith) p0) in
          rw z (ap₂ (λ (x : ℕ) (y : Bool). record { shift = x; hit = y }) s k)
      go false z ih =
          rw z
          (ih (ap (λ (x : Bool). cond x (suc j) last) (top (suc j) d' p')
          ∙ least-next F (suc j) (shortest ps - suc j) (shortest ps - suc (suc j)) (shortest ps) last (omega arith) q))

  pub seen_means : 1 ≤ shortest ps → seen_n A text w (all_states A) (shortest ps) (shortest ps - 1) ≡ record { shift = shift ps (window_at ps text w); hit = is_beginning ps (window_at ps text w) }
  seen_means pos = go (shortest ps - 1) (omega arith)
    where
      go : (j : ℕ) → suc j ≡ shortest ps → seen_n A text w (all_states A) (shortest ps) j ≡ record { shift = shift ps (window_at ps text w); hit = is_beginning ps (window_at ps text w) }
      go j e =
          let z : drop (suc j) (window_at ps text w) ≡ [] = drop_of_length-le (window_at ps text w) {i = suc j} (omega (arith, window_length)) in
          let k : shortest ps - suc j ≡ 0 = omega arith in
          let o : P (all_states A) (suc j) =
          subst (λ (x : List ℕ). Backward ps (reverse x) (all_states A)) (sym z) (Bridge.backward_open A ps of inhabited) in
          seen_from j (all_states A) (shortest ps) (omega arith) o (sym (ap (λ (x : ℕ). least_from F (suc j) x (shortest ps)) k))

  -- the short way: the last byte stands at no position
  pub unknown_means : 1 ≤ shortest ps → A.table (get_or text (w + shortest ps - 1) 0) ≡ 0
      → (shift ps (window_at ps text w) ≡ shortest ps) × (is_beginning ps (window_at ps text w) ≡ false)
  unknown_means pos z = go (shortest ps - 1) (omega arith)
    where
      go : (j : ℕ) → suc j ≡ shortest ps → (shift ps (window_at ps text w) ≡ shortest ps) × (is_beginning ps (window_at ps text w) ≡ false)
      go j e =
          let k : drop (suc j) (window_at ps text w) ≡ [] = drop_of_length-le (window_at ps text w) {i = suc j} (omega (arith, window_length)) in
          let o : P (all_states A) (suc j) =
          subst (λ (x : List ℕ). Backward ps (reverse x) (all_states A)) (sym k) (Bridge.backward_open A ps of inhabited) in
          let i : w + j ≡ w + shortest ps - 1 = omega arith in
          let y : admits_mask (reverse ps) (get_or text (w + j) 0) ≡ 0 = sym (of.is-table (get_or text (w + j) 0)) ∙ ap (λ (x : ℕ). A.table (get_or text x 0)) i ∙ z in
          let p0 : P 0 j = one_more j (all_states A) 0 (omega arith) (unknown_steps (reverse ps) (get_or text (w + j) 0) y (bit (all_states A))) o in
          let c : shortest ps - 1 ≡ j + 0 = omega arith in
          (ap (λ (x : ℕ). least_from F 1 x (shortest ps)) c ∙ least_skip F j 1 0 (shortest ps) (λ x f g. none_before j x (omega arith) (omega arith) p0), none_before j 0 (omega arith) (omega arith) p0)
