-- What `verify` computes over the forward table of a list of positions: the earliest end of an occurrence from the start, or that there is none. Assumes nothing.
use mathlib.Core.Path.{◌≡◌, refl, sym, ap, subst, ◌∙◌}
use mathlib.Core.Bool.{Bool, true, false, cond}
use mathlib.Core.Logic.{◌↔◌}
use mathlib.Core.List.{List, [], ◌∷◌, ◌++◌}
use Prim.Native.Nat.{ℕ, zero, suc, ◌+◌, ◌-◌, ◌≤◌, ◌<◌}
use native.Mathlib.Nat.{add-zero}
use native.Mathlib.Numerals.{add-one}
use native.Mathlib.Decide.{dec_le}
use native.Mathlib.Omega.{arith}
use lib.Dec.{T, eqb}
use lib.ListN.{length, take, drop, get_or}
use lib.Seq.{take-suc, drop-append-le, length-take-le, slice_empty}
use borrow.Author.Tests.{eqb-true}
use Rattle.model.specs.Occurrence.{Position, Occurs, stretch, OccursAt, is_occurrence}
use Rattle.model.proofs.Law.{Steps}
use Rattle.model.proofs.Searches as Searches
use Rattle.model.proofs.Decided.{occurrence_decided}
use Rattle.shift_and.specs.Bit.{bit}
use Rattle.shift_and.specs.ForwardStep.{top_bit}
use Rattle.shift_and.specs.Automaton.{Automaton, opening_state}
use Rattle.shift_and.specs.Masks.{Encodes}
use Rattle.shift_and.proofs.Digits.{none-bit}
use Rattle.shift_and.proofs.Bridge as Bridge
use Rattle.shift_and.proofs.Bridge.{Anchored, anchored_top}
use Rattle.window_reader.specs.declared.End.{End}
use Rattle.window_reader.specs.declared.End.TheVariants.{At, Dead, Open}
use Rattle.window_reader.specs.Reading.{step_at, ended_n}
use Rattle.window_reader.proofs.Steps.{none-steps}

-- the stretch of one byte more
stretch_suc : (text : List ℕ) (s e : ℕ) → s ≤ e → e < length text → stretch text s (suc e) ≡ stretch text s e ++ (get_or text e 0 ∷ [])
stretch_suc text s e h l =
    let k : length (take e text) ≡ e = length-take-le e text (omega arith) in
    ap (λ (x : List ℕ). drop s x) (take-suc text e 0 l) ∙ drop-append-le s (take e text) (get_or text e 0 ∷ []) (omega arith)

-- What an answer means that looks from e on, where at most k bytes may be read, for a start s: of ends up to e nothing is said.
abbrev pub Means : List Position → List ℕ → (s e k : ℕ) → End → Type 0
Means ps text s e k (At x) = (e < x) × OccursAt ps text s x × ((y : ℕ) → e < y → y < x → OccursAt ps text s y → ⊥)
Means ps text s e k (Dead x) = (y : ℕ) → e < y → OccursAt ps text s y → ⊥
Means ps text s e k Open = (y : ℕ) → e < y → y ≤ e + k → OccursAt ps text s y → ⊥

module _ (ps : List Position) (A : Automaton) (text : List ℕ) (of : Encodes A ps) (s : ℕ) where
  np : A.top ≡ length ps
  np = of.is-top

  -- d are the states when the bytes from s to e have been read
  abbrev P : ℕ → ℕ → Type 0
  P d e = Anchored ps (stretch text s e) d

  one_more : (e d d' : ℕ) → s ≤ e → e < length text → Steps false ps (get_or text e 0) (bit d) (bit d') → P d e → P d' (suc e)
  one_more e d d' h l st p =
      subst (λ (x : List ℕ). Anchored ps x d') (sym (stretch_suc text s e h l))
      (Searches.anchored_step ps (stretch text s e) (get_or text e 0) (bit d) (bit d') st p)

  top : (e d : ℕ) → P d e → T (top_bit A.top d) ↔ Occurs ps (stretch text s e)
  top e d p =
      let x = occurrence_decided ps (stretch text s e) in
      let q : top_bit A.top d ≡ is_occurrence ps (stretch text s e) = ap (λ (n : ℕ). top_bit n d) np ∙ anchored_top ps (stretch text s e) d p in
      (λ h. x.0 (subst (λ (b : Bool). T b) q h), λ o. subst (λ (b : Bool). T b) (sym q) (x.1 o))

  none-top : (e : ℕ) → P 0 e → Occurs ps (stretch text s e) → ⊥
  none-top e p o = subst (λ (b : Bool). T b) (Bridge.top-bit A.top 0 ∙ none-bit A.top) ((top e 0 p).1 o)

  -- once no state is left, nothing ends at a later place
  none_up : (k e : ℕ) → s ≤ e → e + k ≤ length text → P 0 e → P 0 (e + k)
  none_up zero e h l p = subst (P 0) (sym (add-zero e)) p
  none_up (suc k) e h l p =
      let q : e + suc k ≡ suc (e + k) = omega arith in
      subst (P 0) (sym q) (one_more (e + k) 0 0 (omega arith) (omega arith) (none-steps ps (get_or text (e + k) 0)) (none_up k e h (omega arith) p))

  none_after : (e y : ℕ) → s ≤ e → e ≤ y → P 0 e → OccursAt ps text s y → ⊥
  none_after e y h l p o =
      let i = o.inside in
      let q : e + (y - e) ≡ y = omega arith in
      none-top y (subst (P 0) q (none_up (y - e) e h (omega arith) p)) o.occurs

  -- one place is not an end, and the others after it are not
  not_here : (e y : ℕ) → (Occurs ps (stretch text s (suc e)) → ⊥) → e < y → (suc e < y → OccursAt ps text s y → ⊥) → OccursAt ps text s y → ⊥
  not_here e y never h later o =
      elim (dec_le y (suc e)) [
        | yes l ↦ (let q : y ≡ suc e = omega arith in never (subst (λ (x : ℕ). Occurs ps (stretch text s x)) q o.occurs))
        | no l ↦ later (omega arith) o
      ]

  pub ended_means : (k e d : ℕ) → s ≤ e → e + k ≤ length text → P d e → Means ps text s e k (ended_n A text d e k)
  unfolding ended_n
  ended_means zero e d h l p = λ y f g o. omega arith
  ended_means (suc k) e d h l p = rw add-one (go (eqb d' 0) (top_bit A.top d') refl refl (ended_means k (suc e) d' (omega arith) (omega arith) p'))
    where
      d' : ℕ
      d' = step_at A text 0 d e

      p' : P d' (suc e)
      p' =
          one_more e d d' h (omega arith)
          (Bridge.word-steps A ps of false (get_or text e 0) d) p

      rest : (x : End) → (Occurs ps (stretch text s (suc e)) → ⊥) → Means ps text s (suc e) k x → Means ps text s e (suc k) x
      rest (At x) never i = let b = i.0 in (omega arith, i.1, λ y f g o. not_here e y never f (λ l o. i.2 y l g o) o)
      rest (Dead x) never i = λ y f o. not_here e y never f (λ l o. i y l o) o
      rest Open never i = λ y f g o. not_here e y never f (λ l o. i y l (omega arith) o) o

      go : (b c : Bool) → eqb d' 0 ≡ b → top_bit A.top d' ≡ c → Means ps text s (suc e) k (ended_n A text d' (suc e) k)
          → Means ps text s e (suc k) (cond (eqb d' 0) (Dead (suc e)) (cond (top_bit A.top d') (At (suc e)) (ended_n A text d' (suc e) k)))
      go true c z q ih =
          let p0 : P 0 (suc e) = subst (λ (x : ℕ). P x (suc e)) (eqb-true d' 0 z) p' in
          rw z (λ y f o. none_after (suc e) y (omega arith) f p0 o)
      go false true z q ih =
          let o : Occurs ps (stretch text s (suc e)) = (top (suc e) d' p').0 (subst (λ (b : Bool). T b) (sym q) tt) in
          rw (z, q) (omega arith, record { ordered = omega arith; inside = omega arith; occurs = o }, λ y f g o. omega arith)
      go false false z q ih =
          rw (z, q) (rest (ended_n A text d' (suc e) k) (λ o. subst (λ (b : Bool). T b) q ((top (suc e) d' p').1 o)) ih)

  -- from the opening
  pub opened-means : (k : ℕ) → s + k ≤ length text → Means ps text s s k (ended_n A text (opening_state A) s k)
  opened-means k l =
      ended_means k s (opening_state A) (omega arith) l
      (subst (λ (x : List ℕ). Anchored ps x (opening_state A)) (sym (slice_empty s text)) (Bridge.anchored_open A ps of))
