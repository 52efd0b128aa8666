-- The loop that reads a name, and what it means: the name is an occurrence. On plain values. Assumes nothing.
use mathlib.Core.Path.{◌≡◌, refl, sym, ap, subst, ◌∙◌}
use mathlib.Core.Bool.{Bool, true, false, cond}
use mathlib.Core.List.{List, [], ◌∷◌, ◌++◌, append_assoc, append-nil}
use Prim.Native.Nat.{ℕ, suc, ◌+◌, ◌≤◌, ◌<◌}
use native.Mathlib.Numerals.{add-one}
use lib.Dec.{eqb}
use lib.ListN.{length, get_or, drop, drop_of_length-le}
use lib.Seq.{drop-cons}
use borrow.Author.Tests.{eq-eqb, ne_eqb, eqb-true}
use Rattle.model.specs.Occurrence.{Position, is_occurrence}
use Rattle.model.specs.WholeNames.{covers}
use Rattle.model.proofs.Searches as Searches
use Rattle.shift_and.specs.Bit.{bit}
use Rattle.shift_and.specs.ForwardStep.{top_bit}
use Rattle.shift_and.specs.Automaton.{Automaton, step_on, opening_state}
use Rattle.shift_and.specs.Masks.{Encodes}
use Rattle.shift_and.proofs.Digits.{none-bit}
use Rattle.shift_and.proofs.Bridge as Bridge
use Rattle.shift_and.proofs.Bridge.{Anchored, anchored_top}
use Rattle.window_reader.proofs.Steps.{none-steps}
use Rattle.whole_match.specs.Covering.{reads_from, reads_whole}

-- ---- the loop: the bytes from `at` on are still to be read

pub record Reading (A : Automaton) (name : List ℕ) (d at : ℕ) : Type 0 where
  pub rest : reads_from A d (drop at name) ≡ reads_whole A name

module _ (A : Automaton) (name : List ℕ) where
  pub reading-begun : {d : ℕ} → d ≡ opening_state A → Reading A name d 0
  reading-begun e = record { rest = rw e }

  module _ {d at : ℕ} (g : Reading A name d at) where
    pub reading-over : length name ≤ at → {r : Bool} → r ≡ top_bit A.top d → r ≡ reads_whole A name
    unfolding reads_from
    reading-over h e = e ∙ sym (ap (reads_from A d) (drop_of_length-le name h)) ∙ g.rest

    module _ {b d' : ℕ} (h : at < length name) (eb : b ≡ get_or name at 0) (es : d' ≡ step_on A 0 d b) where
      -- one turn of the definition
      turn : reads_whole A name ≡ cond (eqb d' 0) false (reads_from A d' (drop (suc at) name))
      unfolding reads_from
      turn =
          sym g.rest ∙ ap (reads_from A d) (drop-cons name at 0 h)
          ∙ ap (λ (x : ℕ). cond (eqb x 0) false (reads_from A x (drop (suc at) name))) (sym (es ∙ ap (step_on A 0 d) eb))

      pub reading_died : d' ≡ 0 → false ≡ reads_whole A name
      reading_died z = sym (turn ∙ ap (λ (x : Bool). cond x false (reads_from A d' (drop (suc at) name))) (eq-eqb d' 0 z))

      pub reading-turn : (d' ≡ 0 → ⊥) → Reading A name d' (at + 1)
      reading-turn n = record {
        rest = rw (add-one at) (sym (turn ∙ ap (λ (x : Bool). cond x false (reads_from A d' (drop (suc at) name))) (ne_eqb d' 0 n)));
      }

-- ---- what it means

module _ (ps : List Position) (A : Automaton) (of : Encodes A ps) where
  -- once no state is left, no longer name is an occurrence
  none_later : (xs cs : List ℕ) → Anchored ps xs 0 → is_occurrence ps (xs ++ cs) ≡ false
  none_later xs [] p =
      ap (is_occurrence ps) (append-nil xs) ∙ sym (anchored_top ps xs 0 p) ∙ Bridge.top-bit (length ps) 0 ∙ none-bit (length ps)
  none_later xs (c ∷ cs) p =
      ap (is_occurrence ps) (sym (append_assoc xs (c ∷ []) cs))
      ∙ none_later (xs ++ (c ∷ [])) cs (Searches.anchored_step ps xs c (bit 0) (bit 0) (none-steps ps c) p)

  -- d are the states when xs has been read
  reads-means : (d : ℕ) (xs cs : List ℕ) → Anchored ps xs d → reads_from A d cs ≡ is_occurrence ps (xs ++ cs)
  unfolding reads_from
  reads-means d xs [] p = ap (λ (n : ℕ). top_bit n d) of.is-top ∙ anchored_top ps xs d p ∙ ap (is_occurrence ps) (sym (append-nil xs))
  reads-means d xs (c ∷ cs) p = go (eqb d' 0) refl (reads-means d' (xs ++ (c ∷ [])) cs p')
    where
      d' : ℕ
      d' = step_on A 0 d c

      p' : Anchored ps (xs ++ (c ∷ [])) d'
      p' = Searches.anchored_step ps xs c (bit d) (bit d') (Bridge.word-steps A ps of false c d) p

      go : (b : Bool) → eqb d' 0 ≡ b → reads_from A d' cs ≡ is_occurrence ps ((xs ++ (c ∷ [])) ++ cs) → cond (eqb d' 0) false (reads_from A d' cs) ≡ is_occurrence ps (xs ++ (c ∷ cs))
      go true q ih =
          let p₀ : Anchored ps (xs ++ (c ∷ [])) 0 = subst (λ (x : ℕ). Anchored ps (xs ++ (c ∷ [])) x) (eqb-true d' 0 q) p' in
          rw q (sym (none_later (xs ++ (c ∷ [])) cs p₀) ∙ ap (is_occurrence ps) (append_assoc xs (c ∷ []) cs))
      go false q ih = rw q (ih ∙ ap (is_occurrence ps) (append_assoc xs (c ∷ []) cs))

  pub whole_means : (name : List ℕ) → reads_whole A name ≡ covers ps name
  whole_means name = reads-means (opening_state A) [] name (Bridge.anchored_open A ps of)
